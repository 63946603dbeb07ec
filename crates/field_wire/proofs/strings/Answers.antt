use Prim.Native.Nat.{◌≤◌, ◌<◌}
use mathlib.Core.Path.{refl, ◌∙◌}
use mathlib.Core.Bool.{true, false}
use lib.ListN.{length}
use Rattle.format.specs.Wire.{string_count, short}
use Rattle.field_wire.proofs.Laws.{whole, whole_so_far, plus_none, nothing, string_cut, string_again, string_there, all_left}
use native.Mathlib.Omega.{arith}
use borrow.Author.Rules.{rules}
use Rattle.field_wire.proofs.strings.Goals as goal

pub returns-then-is_empty : goal.returns-then-is_empty
returns-then-is_empty c =
    let h : length c.args.p.now ≤ 0 = search rules in
    nothing c.args.p.now 0 (length c.args.p.now) (omega arith) (string_count false) false refl h ∙ all_left (string_count false) c.args.p.now

pub loop-j-init : goal.loop-j-init
loop-j-init c =
    let h : 0 < length c.args.p.now = search rules in
    (search rules, string_there c.args.p.now 0 (length c.args.p.now) (omega arith) h false true ∙ plus_none _)

pub returns-then-p-j : goal.returns-then-p-j
returns-then-p-j c =
    whole _ _ _ short c.loop-j.invariant.1
    (string_cut c.args.p.now c.loop-j.j (length c.args.p.now) (omega arith) c.loop-j-test.true true c.from-n.result c.from-n.ensures (omega arith))
    ∙ all_left (string_count false) c.args.p.now

pub loop-j-preserved : goal.loop-j-preserved
loop-j-preserved c = (
  omega arith,
  string_again c.args.p.now c.loop-j.j (length c.args.p.now) (omega arith) c.loop-j-test.true c.from-n.result _ c.loop-j.invariant.1 c.from-n.ensures (omega arith),
)

pub returns : goal.returns
returns c =
    whole_so_far c.loop-j.j _ _ c.loop-j.invariant.1
    (nothing c.args.p.now c.loop-j.j (length c.args.p.now) (omega arith) (string_count true) true refl c.loop-j-test.false)
    ∙ all_left (string_count false) c.args.p.now
