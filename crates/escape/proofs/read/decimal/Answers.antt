use mathlib.Core.Path.{◌≡◌, sym, ◌∙◌}
use Prim.Native.Nat.{◌+◌, ◌*◌, ◌<◌, ◌≤◌}
use borrow.Author.Rules.{rules}
use native.Mathlib.Omega.{arith}
use Rattle.escape.proofs.Escapes.{too_few, no_second, no_third, too_high, three_digits}
use Rattle.escape.proofs.read.decimal.Goals as goal

pub returns-then-t-lt2-clause-items : goal.returns-then-t-lt2-clause-items
returns-then-t-lt2-clause-items c = too_few c.args.t.now c.args.v c.if-t-lt2.true

pub returns-in_err-x-clause-items : goal.returns-in_err-x-clause-items
returns-in_err-x-clause-items c =
    rw c.from_residual.ensures (no_second c.args.t.now c.args.v (omega arith) (sym c.digit_value.ensures ∙ c.in_err-x.was))

pub returns-in_err-y-clause-items : goal.returns-in_err-y-clause-items
returns-in_err-y-clause-items c =
    rw c.from_residual-in_err-y.ensures (no_third c.args.t.now c.args.v _ c.if-t-lt2.false (sym c.digit_value.ensures ∙ c.in_ok-x.was) (sym c.digit_value-2.ensures ∙ c.in_err-y.was))

pub returns-in_err-octet-clause-items : goal.returns-in_err-octet-clause-items
returns-in_err-octet-clause-items c =
    let h : 255 < (c.args.v * 10 + c.in_ok-x.x) * 10 + c.in_ok-y.y = search rules in
    rw c.from_residual-in_err-octet.ensures (too_high c.args.t.now c.args.v _ c.if-t-lt2.false (sym c.digit_value.ensures ∙ c.in_ok-x.was) _ (sym c.digit_value-2.ensures ∙ c.in_ok-y.was) h)

pub returns-clause-items : goal.returns-clause-items
returns-clause-items c =
    let e : c.in_ok-octet.octet ≡ (c.args.v * 10 + c.in_ok-x.x) * 10 + c.in_ok-y.y = search rules in
    let h : (c.args.v * 10 + c.in_ok-x.x) * 10 + c.in_ok-y.y ≤ 255 = search rules in
    rw e (three_digits c.args.t.now c.args.v _ c.if-t-lt2.false (sym c.digit_value.ensures ∙ c.in_ok-x.was) _ (sym c.digit_value-2.ensures ∙ c.in_ok-y.was) h)
