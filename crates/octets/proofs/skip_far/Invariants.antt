use Rattle.std.proofs.Common.{◌≡◌, ◌≤◌, ◌-◌, length}
use Rattle.octets.specs.Octets.{front_end, in_class}
use Rattle.octets.proofs.skip_far.Given as goal

-- The run of octets in the class that starts at j ends where that at the front does.
abbrev pub invariant-loop-j : goal.invariant-loop-j
invariant-loop-j l = (l.j ≤ length l.xs) × (front_end (in_class l.c) l.xs l.j (length l.xs) ≡ front_end (in_class l.c) l.xs 0 (length l.xs))

abbrev pub decreases-loop-j : goal.decreases-loop-j
decreases-loop-j l = length l.xs - l.j
