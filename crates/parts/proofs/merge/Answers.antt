use native.Mathlib.Omega.{arith}
use borrow.Author.Rules.{rules}
use Rattle.parts.proofs.Runs.{merge_start, first_there, second_there, first_merged, second_merged, same_met}
use Rattle.parts.proofs.merge.Goals.{in-Less, in-Greater}
use Rattle.parts.proofs.merge.Goals as goal

pub loop-k-init : goal.loop-k-init
loop-k-init c =
    (search rules, search rules, search rules, merge_start c.args.ignoring c.args.s.now _ _ c.requires.first c.requires.second)

pub returns-in-Equal : goal.returns-in-Equal
returns-in-Equal c =
    let l = c.loop-k in
    same_met c.args.ignoring c.args.s.now c.args.xs.now c.args.ys.now l.out l.i l.k l.invariant.0 l.invariant.1 l.invariant.2 (omega arith) (omega arith) _ c.head_order.ensures l.invariant.3 c.in-Equal.is

pub loop-k-preserved : goal.loop-k-preserved
loop-k-preserved c =
    let l = c.loop-k in
    elim c.match-head_order.branch [
      | in-Less w ↦
          let t = first_there c.args.ignoring c.args.s.now c.args.xs.now c.args.ys.now l.out l.i l.k l.invariant.0 l.invariant.1 l.invariant.2 (omega arith) (omega arith) _ c.head_order.ensures w.in-Less.is in
          let m = first_merged c.args.ignoring c.args.s.now c.args.xs.now c.args.ys.now l.out l.i l.k l.invariant.0 l.invariant.1 l.invariant.2 (omega arith) (omega arith) _ c.head_order.ensures l.invariant.3 w.in-Less.is in
          (omega (arith, w.i-is, l.invariant.0), omega (arith, w.i-is, t), omega (arith, w.i-is, l.invariant.0, l.invariant.2), rw (w.i-is, w.out-is) m)
      | in-Greater w ↦
          let t = second_there c.args.ignoring c.args.s.now c.args.xs.now c.args.ys.now l.out l.i l.k l.invariant.0 l.invariant.1 l.invariant.2 (omega arith) (omega arith) _ c.head_order.ensures w.in-Greater.is in
          let m = second_merged c.args.ignoring c.args.s.now c.args.xs.now c.args.ys.now l.out l.i l.k l.invariant.0 l.invariant.1 l.invariant.2 (omega arith) (omega arith) _ c.head_order.ensures l.invariant.3 w.in-Greater.is in
          (omega (arith, w.i-is, l.invariant.0), omega (arith, w.i-is, l.invariant.1), omega (arith, w.i-is, l.invariant.0, t), rw (w.i-is, w.out-is) m)
    ]
