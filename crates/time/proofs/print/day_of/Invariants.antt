use Prim.Native.Nat.{◌+◌, ◌*◌}
use mathlib.Core.Path.{◌≡◌}
use Rattle.format.specs.Time.{days_before}
use Rattle.time.proofs.print.day_of.Given as goal

-- Day d is `left` days after the first of month m.
abbrev pub invariant-loop-m : goal.invariant-loop-m
invariant-loop-m l = days_before (l.y.year * 12 + l.m) + l.left ≡ l.d
