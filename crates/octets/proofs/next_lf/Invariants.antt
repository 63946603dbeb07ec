use Rattle.std.proofs.Common.{◌≡◌, ◌≤◌, ◌-◌, length}
use Rattle.octets.specs.Octets.{line_end}
use Rattle.octets.proofs.next_lf.Given as goal

-- No LF stands from i to j: the line that j is in ends where that of i does.
abbrev pub invariant-loop-j : goal.invariant-loop-j
invariant-loop-j l = (l.j ≤ length l.xs) × (line_end l.xs l.j ≡ line_end l.xs l.i)

abbrev pub decreases-loop-j : goal.decreases-loop-j
decreases-loop-j l = length l.xs - l.j
