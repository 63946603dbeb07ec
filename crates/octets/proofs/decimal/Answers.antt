use mathlib.Core.Path.{◌≡◌, sym, ap, ◌∙◌}
use mathlib.Core.Bool.{false}
use Prim.Native.Nat.{◌≤◌}
use lib.ListN.{get_or}
use borrow.Author.Rules.{rules}
use native.Mathlib.Omega.{arith}
use Rattle.format.specs.Octets.{digit}
use Rattle.format.proofs.Lists.{drop_next, drop_none}
use Rattle.octets.proofs.Numbers.{value_from, decimal_value, digit_on, not_digit, one_more_digit, nothing_left}
use Rattle.octets.proofs.decimal.Goals as goal

pub returns-then-not-is_ascii_digit : goal.returns-then-not-is_ascii_digit
returns-then-not-is_ascii_digit c =
    let e : digit (get_or c.args.xs.now c.loop-b.b-index 0) ≡ false = search rules in
    sym (decimal_value c.args.xs.now (search rules) c.if-xs-gt10.false ∙ sym c.loop-b.invariant.1
    ∙ ap (value_from c.loop-b.v) (drop_next c.args.xs.now c.loop-b.b-index c.loop-b-test.true) ∙ not_digit c.loop-b.v _ _ e)

pub loop-b-preserved : goal.loop-b-preserved
loop-b-preserved c =
    let l : 48 ≤ get_or c.args.xs.now c.loop-b.b-index 0 = search rules in
    let h : get_or c.args.xs.now c.loop-b.b-index 0 ≤ 57 = search rules in (
      one_more_digit c.loop-b.v c.loop-b.b-index _ c.loop-b.invariant.0 (omega (arith, c.from.ensures)),
      rw c.from.ensures (sym (digit_on c.loop-b.v _ _ l h) ∙ ap (value_from c.loop-b.v) (sym (drop_next c.args.xs.now c.loop-b.b-index c.loop-b-test.true)) ∙ c.loop-b.invariant.1),
    )

pub returns : goal.returns
returns c =
    sym (decimal_value c.args.xs.now (search rules) c.if-xs-gt10.false ∙ sym c.loop-b.invariant.1
    ∙ ap (value_from c.loop-b.v) (drop_none c.args.xs.now c.loop-b.b-index c.loop-b-test.false) ∙ nothing_left c.loop-b.v)
