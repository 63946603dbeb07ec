use Prim.Native.Nat.{◌+◌}
use mathlib.Core.Path.{◌≡◌, sym, subst}
use native.Mathlib.Omega.{arith}
use Rattle.buffer.proofs.Laws.{Left, left_all, left_next, left_over}
use Rattle.buffer.proofs.put_all.Goals as goal

pub loop-i-init : goal.loop-i-init
loop-i-init c =
    let z : c.args.at + 0 ≡ c.args.at = omega arith in
    subst (λ m. Left c.args.out.now c.args.at c.args.xs.now c.args.out.now m c.args.xs.now) (sym z) (left_all _ _ _)

pub loop-i-preserved : goal.loop-i-preserved
loop-i-preserved c = left_next c.args.xs.now _ c.loop-i.invariant c.loop-i-test.true c.put.ensures

pub returns : goal.returns
returns c = left_over c.args.xs.now c.loop-i.invariant c.loop-i-test.false
