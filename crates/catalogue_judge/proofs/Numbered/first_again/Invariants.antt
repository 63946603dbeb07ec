use Rattle.std.proofs.Common.{◌≡◌, ℕ, ◌<◌, length, get_or, false, true}
use Rattle.catalogue_judge.specs.Judging.{mark_of, met_before}
use Rattle.catalogue_judge.proofs.Numbered.first_again.Given as goal

-- None of the first k names is the same as an earlier one, and each has set its mark.
abbrev pub invariant-loop-k : goal.invariant-loop-k
invariant-loop-k l =
    (length l.met ≡ 4096) × ((j : ℕ) → j < l.k → met_before l.self.names.now l.self.entries.now j ≡ false)
    × ((j : ℕ) → j < l.k → get_or l.met (mark_of (get_or l.self.hashes.now j 0)) false ≡ true)
