use mathlib.Core.Path.{◌≡◌, refl, ap, ◌∙◌}
use mathlib.Core.Bool.{false}
use Prim.Native.Nat.{◌<◌, ◌≤◌, ◌-◌}
use lib.ListN.{length}
use borrow.Author.Rules.{rules}
use native.Mathlib.Omega.{arith}
use Rattle.format.specs.Wire.{to_the_end, took}
use Rattle.field_wire.proofs.Laws.{rest_all, nothing, all_left}
use Rattle.field_wire.proofs.rest.Goals as goal

pub returns-then-is_empty : goal.returns-then-is_empty
returns-then-is_empty c =
    let h : length c.args.p.now ≤ 0 = search rules in
    nothing c.args.p.now 0 (length c.args.p.now) (omega arith) (to_the_end false) false refl h ∙ all_left (to_the_end false) c.args.p.now

pub returns : goal.returns
returns c =
    let h : 0 < length c.args.p.now = search rules in
    let z : length c.args.p.now ≡ length c.args.p.now - 0 = omega arith in
    ap took z ∙ rest_all c.args.p.now 0 (length c.args.p.now) (omega arith) h ∙ all_left (to_the_end false) c.args.p.now
