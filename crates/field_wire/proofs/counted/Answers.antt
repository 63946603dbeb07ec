use mathlib.Core.Path.{refl, ◌∙◌}
use mathlib.Core.Bool.{false}
use Prim.Native.Nat.{◌<◌, ◌≤◌}
use lib.ListN.{length}
use borrow.Author.Rules.{rules}
use native.Mathlib.Omega.{arith}
use Rattle.format.specs.Wire.{count}
use Rattle.field_wire.proofs.Laws.{nothing, count_low, count_cut, count_all, all_left}
use Rattle.field_wire.proofs.counted.Goals as goal

pub returns-then-is_empty : goal.returns-then-is_empty
returns-then-is_empty c =
    let h : length c.args.p.now ≤ 0 = search rules in
    nothing c.args.p.now 0 (length c.args.p.now) (omega arith) (count c.args.lo) false refl h ∙ all_left (count c.args.lo) c.args.p.now

pub returns-then-p-lo : goal.returns-then-p-lo
returns-then-p-lo c =
    let h : 0 < length c.args.p.now = search rules in
    count_low c.args.p.now 0 (length c.args.p.now) (omega arith) h c.args.lo c.if-p-lo.true ∙ all_left (count c.args.lo) c.args.p.now

pub returns-then-p-n : goal.returns-then-p-n
returns-then-p-n c =
    let h : 0 < length c.args.p.now = search rules in
    count_cut c.args.p.now 0 (length c.args.p.now) (omega arith) h c.args.lo c.from-n.result c.from-n.ensures (omega (arith, c.from-n.ensures)) (omega arith)
    ∙ all_left (count c.args.lo) c.args.p.now

pub returns : goal.returns
returns c =
    let h : 0 < length c.args.p.now = search rules in
    count_all c.args.p.now 0 (length c.args.p.now) (omega arith) h c.args.lo c.from-n.result c.from-n.ensures (omega (arith, c.from-n.ensures)) (omega arith)
    ∙ all_left (count c.args.lo) c.args.p.now
