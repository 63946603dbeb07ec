use Rattle.std.proofs.Common.{◌≡◌, take}
use lib.Dec.{eqb}
use Rattle.format.specs.Lists.{any_of}
use Rattle.catalogue_judge.proofs.some_hash.Given as goal

-- Whether one of the numbers so far is h.
abbrev pub invariant-loop-x : goal.invariant-loop-x
invariant-loop-x l = l.some ≡ any_of (λ x. eqb x l.h) (take l.x-index l.hashes)
