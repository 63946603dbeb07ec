use Prim.Native.Nat.{◌+◌, ◌*◌}
use mathlib.Core.Path.{◌≡◌}
use Rattle.format.specs.Time.{days_before}
use Rattle.time.proofs.print.year_of.Given as goal

-- Day d is `left` days after the first of January of year y.
abbrev pub invariant-loop-y : goal.invariant-loop-y
invariant-loop-y l = days_before (l.y * 12) + l.left ≡ l.d
