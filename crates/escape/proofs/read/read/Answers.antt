use mathlib.Core.Path.{◌≡◌, sym, ◌∙◌}
use Prim.Native.Nat.{◌<◌}
use lib.ListN.{length, get_or}
use borrow.Author.Rules.{rules}
use Rattle.octets.proofs.Slices.{lent_rest}
use Rattle.escape.proofs.Escapes.{slash_none, other_octet, first_digit, items_later}
use Rattle.escape.proofs.read.read.Goals as goal

pub returns-in_err-b-clause-items : goal.returns-in_err-b-clause-items
returns-in_err-b-clause-items c =
    let e : length c.args.t.now ≡ 0 = search rules in
    rw c.from_residual.ensures (slash_none c.args.t.now e)

pub returns-in_default-clause-items : goal.returns-in_default-clause-items
returns-in_default-clause-items c =
    let h : 0 < length c.args.t.now = search rules in
    let e : c.in_ok-b.field-0.now ≡ get_or c.args.t.now 0 0 = search rules in
    rw e (other_octet c.args.t.now h (rw e at (sym c.digit_value.ensures ∙ c.in_default.is)))

pub returns-in_err-octet-clause-items : goal.returns-in_err-octet-clause-items
returns-in_err-octet-clause-items c =
    let h : 0 < length c.args.t.now = search rules in
    let e : c.in_ok-b.field-0.now ≡ get_or c.args.t.now 0 0 = search rules in
    let d = rw (lent_rest c.args.t.now 1, c.in_err-octet.was) at c.decimal.ensures.items in
    rw c.from_residual-in_err-octet.ensures (first_digit c.args.t.now c.in-Some.x h (rw e at (sym c.digit_value.ensures ∙ c.in-Some.is)) ∙ d)

pub returns-clause-items : goal.returns-clause-items
returns-clause-items c =
    let h : 0 < length c.args.t.now = search rules in
    let e : c.in_ok-b.field-0.now ≡ get_or c.args.t.now 0 0 = search rules in
    let d = rw (lent_rest c.args.t.now 1) at c.decimal.ensures.items in
    first_digit c.args.t.now c.in-Some.x h (rw e at (sym c.digit_value.ensures ∙ c.in-Some.is)) ∙ d ∙ items_later c.args.t.now c.decimal.result _ _ c.in_ok-octet.was
