use Rattle.std.proofs.Common.{◌+◌, ◌*◌, ◌≤◌, ◌≡◌, length}
use Rattle.buffer.proofs.Values.{Begun}
use Rattle.address.specs.Part.{parts_of}
use Rattle.address.proofs.part.PartForm.parts.Given as goal

-- The parts before `rest` are stored up to m; they, and those that are left, are the w parts of the whole text.
abbrev pub invariant-loop-left : goal.invariant-loop-left
invariant-loop-left l =
    (l.m + 2 * l.left ≤ l.at + 2 * l.w) × (length l.out ≡ length l.initial.out)
    × Begun l.initial.out l.out l.at l.m (parts_of l.self l.w l.t) (parts_of l.self l.left l.rest)
