use lib.Seq.{slice}
use Prim.Native.Nat.{◌+◌}
use native.Mathlib.Omega.{arith}
use Rattle.format.specs.Octets.{letter}
use Rattle.stanza_words.proofs.Laws.{run_end}
use Rattle.stanza_grammar.proofs.Laws.{begun, first_in_lem, options_on, options_off, no_options}
use Rattle.stanza_grammar.proofs.after_options.Goals as goal

pub returns-then-not-begins-clause-value : goal.returns-then-not-begins-clause-value
returns-then-not-begins-clause-value c =
    no_options (slice c.args.i c.args.end c.args.s.now) (begun c.args.s.now c.args.i c.args.end 58 _ _ c.requires.from c.begins.ensures c.if-not-begins.true)

pub returns-then-e-i-clause-value : goal.returns-then-e-i-clause-value
returns-then-e-i-clause-value c =
    let b = begun c.args.s.now c.args.i c.args.end 58 _ _ c.requires.from c.begins.ensures c.if-not-begins.false in
    let h = first_in_lem c.args.s.now c.args.i c.args.end 58 b in
    options_off c.args.s.now c.args.i c.args.end _ c.requires.to b
    (run_end letter c.args.s.now (c.args.i + 1) c.args.end _ (omega (arith, h)) c.skip.ensures) (omega arith)

pub returns-clause-value : goal.returns-clause-value
returns-clause-value c =
    let b = begun c.args.s.now c.args.i c.args.end 58 _ _ c.requires.from c.begins.ensures c.if-not-begins.false in
    let h = first_in_lem c.args.s.now c.args.i c.args.end 58 b in
    options_on c.args.s.now c.args.i c.args.end _ c.requires.to b
    (run_end letter c.args.s.now (c.args.i + 1) c.args.end _ (omega (arith, h)) c.skip.ensures) (omega arith)
