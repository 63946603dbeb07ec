use lib.Seq.{slice}
use Prim.Native.Nat.{◌+◌}
use mathlib.Core.Path.{sym, ap, ◌∙◌}
use native.Mathlib.Omega.{arith}
use Rattle.format.specs.Octets.{digit}
use Rattle.format.specs.Number.{decimal_of}
use Rattle.octets.proofs.Slices.{lent}
use Rattle.stanza_words.proofs.Laws.{run_end, run_within}
use Rattle.stanza_grammar.proofs.Laws.{begun, first_in_lem, number_on, number_off, no_number}
use Rattle.stanza_grammar.proofs.number_after.Goals as goal

pub returns-then-not-begins-clause-value : goal.returns-then-not-begins-clause-value
returns-then-not-begins-clause-value c =
    no_number (slice c.args.i c.args.end c.args.s.now) (begun c.args.s.now c.args.i c.args.end 58 _ _ c.requires.from c.begins.ensures c.if-not-begins.true)

pub returns-in_err-number-clause-value : goal.returns-in_err-number-clause-value
returns-in_err-number-clause-value c =
    let b = begun c.args.s.now c.args.i c.args.end 58 _ _ c.requires.from c.begins.ensures c.if-not-begins.false in
    let h = first_in_lem c.args.s.now c.args.i c.args.end 58 b in
    rw c.from_residual.ensures
    (number_off c.args.s.now c.args.i c.args.end _ c.requires.to b
    (run_end digit c.args.s.now (c.args.i + 1) c.args.end _ (omega (arith, h)) c.skip.ensures)
    (ap decimal_of (sym (lent c.args.s.now (c.args.i + 1) _ (omega arith))) ∙ sym c.decimal.ensures ∙ c.in_err-number.was))

pub returns-clause-value : goal.returns-clause-value
returns-clause-value c =
    let b = begun c.args.s.now c.args.i c.args.end 58 _ _ c.requires.from c.begins.ensures c.if-not-begins.false in
    let h = first_in_lem c.args.s.now c.args.i c.args.end 58 b in
    number_on c.args.s.now c.args.i c.args.end _ c.requires.to b
    (run_end digit c.args.s.now (c.args.i + 1) c.args.end _ (omega (arith, h)) c.skip.ensures) _
    (ap decimal_of (sym (lent c.args.s.now (c.args.i + 1) _ (omega arith))) ∙ sym c.decimal.ensures ∙ c.in_ok-number.was)

pub returns-clause-within : goal.returns-clause-within
returns-clause-within c =
    let b = begun c.args.s.now c.args.i c.args.end 58 _ _ c.requires.from c.begins.ensures c.if-not-begins.false in
    let h = first_in_lem c.args.s.now c.args.i c.args.end 58 b in
    run_within digit c.args.s.now (c.args.i + 1) c.args.end _ (omega (arith, h)) c.skip.ensures c.requires.to
