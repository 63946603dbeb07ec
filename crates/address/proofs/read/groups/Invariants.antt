use Rattle.std.proofs.Common.{◌+◌, ◌*◌, ◌≤◌, ◌≡◌, length}
use Rattle.buffer.proofs.Values.{Begun}
use Rattle.address.specs.Address.{groups_in}
use Rattle.address.proofs.read.groups.Given as goal

-- The groups before `rest` are stored up to m; they, and those that are left, are the groups of the whole text.
abbrev pub invariant-loop-part : goal.invariant-loop-part
invariant-loop-part l =
    (l.m + 2 * length l.rest ≤ l.at + 2 * length l.t) × (length l.out ≡ length l.initial.out)
    × Begun l.initial.out l.out l.at l.m (groups_in l.tail l.t) (groups_in l.tail l.rest)

abbrev pub decreases-loop-part : goal.decreases-loop-part
decreases-loop-part l = length l.rest
