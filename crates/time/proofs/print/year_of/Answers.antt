use Prim.Native.Nat.{◌*◌}
use native.Mathlib.Omega.{arith}
use borrow.Author.Rules.{rules}
use Rattle.time.proofs.Days.{cycle_days, year_next, year_after, month_below}
use Rattle.time.proofs.print.year_of.Goals as goal

pub loop-y-init : goal.loop-y-init
loop-y-init c = omega (arith, cycle_days c.min-cycles.result (search rules))

pub returns-then-left-days-clause-end : goal.returns-then-left-days-clause-end
returns-then-left-days-clause-end c = omega (arith, year_after c.loop-y.y)

pub loop-y-preserved : goal.loop-y-preserved
loop-y-preserved c = omega (arith, year_next c.loop-y.y)

pub unreachable-requires : goal.unreachable-requires
unreachable-requires c =
    omega (arith, month_below (c.loop-y.y * 12) c.args.d (omega (arith, c.loop-y.invariant)) c.requires)
