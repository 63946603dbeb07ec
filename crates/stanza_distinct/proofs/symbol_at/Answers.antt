use Prim.Native.Nat.{◌+◌}
use mathlib.Core.Path.{sym, ap, ◌∙◌}
use Rattle.format.specs.Octets.{digit, name_octet}
use Rattle.format.specs.Number.{decimal_of}
use Rattle.octets.proofs.Slices.{lent}
use Rattle.stanza_words.proofs.Laws.{run_end, run_within, begins_lent}
use Rattle.stanza_distinct.proofs.Symbols.{symbol_found}
use native.Mathlib.Omega.{arith}
use borrow.Author.Rules.{rules}
use Rattle.stanza_distinct.proofs.symbol_at.Goals as goal

pub overflow_add-end : goal.overflow_add-end
overflow_add-end c =
    let w = run_within name_octet c.args.s.now c.args.i c.args.b _ c.requires.from c.skip.ensures c.requires.to in
    omega (arith, run_within digit c.args.s.now (c.args.i + c.skip.result + 1) c.args.b _ (omega (arith, w)) c.skip-2.ensures c.requires.to)

pub ends_at-requires-clause-from : goal.ends_at-requires-clause-from
ends_at-requires-clause-from c =
    let w = run_within name_octet c.args.s.now c.args.i c.args.b _ c.requires.from c.skip.ensures c.requires.to in
    run_within digit c.args.s.now (c.args.i + c.skip.result + 1) c.args.b _ (omega (arith, w)) c.skip-2.ensures c.requires.to

pub slice_bounds-decimal-end : goal.slice_bounds-decimal-end
slice_bounds-decimal-end c =
    let w = run_within name_octet c.args.s.now c.args.i c.args.b _ c.requires.from c.skip.ensures c.requires.to in
    let v = run_within digit c.args.s.now (c.args.i + c.skip.result + 1) c.args.b _ (omega (arith, w)) c.skip-2.ensures c.requires.to in
    search (rules, v)

pub returns : goal.returns
returns c =
    let w = run_within name_octet c.args.s.now c.args.i c.args.b _ c.requires.from c.skip.ensures c.requires.to in
    let n = c.args.i + c.skip.result in
    symbol_found c.args.s.now c.args.i c.args.b _ _ c.requires.from c.requires.to
    (run_end name_octet c.args.s.now c.args.i c.args.b _ c.requires.from c.skip.ensures)
    (begins_lent c.args.s.now c.args.i _ _ _ (omega arith) c.begins_name.ensures c.if-not-begins_name.false)
    (omega (arith, w)) c.if-s-name_end-ne61.false
    (run_end digit c.args.s.now (n + 1) c.args.b _ (omega (arith, w)) c.skip-2.ensures)
    (c.ends_at.ensures c.if-not-ends_at.false) _
    (ap decimal_of (sym (lent c.args.s.now (n + 1) _ (omega arith))) ∙ sym c.decimal.ensures ∙ c.in_ok-number.was)
