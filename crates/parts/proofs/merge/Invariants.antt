use Rattle.std.proofs.Common.{◌≤◌, ◌-◌, length, take, drop}
use Rattle.parts.proofs.Runs.{Merging}
use Rattle.parts.proofs.merge.Given as goal

-- The first k parts of `out` are merged of the first i of the one run and the first k - i of the other.
abbrev pub invariant-loop-k : goal.invariant-loop-k
invariant-loop-k l =
    (l.i ≤ l.k) × (l.i ≤ length l.xs) × (l.k - l.i ≤ length l.ys)
    × Merging l.ignoring l.s l.xs l.ys (take l.k l.out) (drop l.i l.xs) (drop (l.k - l.i) l.ys)
