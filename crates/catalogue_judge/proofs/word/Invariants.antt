use Rattle.std.proofs.Common.{◌≡◌, ◌<◌, drop}
use Rattle.catalogue_judge.specs.Judging.{word_from}
use Rattle.catalogue_judge.proofs.word.Given as goal

-- The word's number is that of its rest, with the number so far.
abbrev pub invariant-loop-b : goal.invariant-loop-b
invariant-loop-b l = (l.h < 72057594037927936) × (word_from l.h (drop l.b-index l.t) ≡ word_from 0 l.t)
