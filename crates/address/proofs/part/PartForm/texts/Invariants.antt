use Rattle.std.proofs.Common.{◌+◌, ◌*◌, ◌≤◌, length, [], ◌∷◌}
use Rattle.buffer.proofs.Laws.{Left}
use Rattle.buffer.proofs.Parted.{later}
use Rattle.address.specs.Part.{mark_of, numbers_of, text_of}
use Rattle.address.proofs.part.PartForm.texts.Given as goal

-- The parts before `rest` are written; writing the others from m on, a mark before each, would give all after the first.
abbrev pub invariant-loop-x : goal.invariant-loop-x
invariant-loop-x l =
    (l.m + 11 * length l.rest ≤ l.at + 11 * length l.p)
    × Left l.initial.out l.initial.m (later (mark_of l.self ∷ []) (text_of l.self) (numbers_of l.self l.initial.rest)) l.out l.m
    (later (mark_of l.self ∷ []) (text_of l.self) (numbers_of l.self l.rest))

abbrev pub decreases-loop-x : goal.decreases-loop-x
decreases-loop-x l = length l.rest
