-- "Lines end at LF; the last may lack it." One rule for the stanza and for the job: no octets are no line.
use Rattle.std.specs.Prelude.{ℕ, ◌+◌, List, [], ◌∷◌, length}
use Rattle.format.specs.Octets.{split_on}
use Rattle.format.specs.Field.{Part}

-- texts that stood one after the other, one octet between them, from a place on
abbrev pub placed : ℕ → List (List ℕ) → List Part
placed at [] = []
placed at (t ∷ ts) = record { place = at; octets = t } ∷ placed (at + length t + 1) ts

-- without a last text of no octets
abbrev pub without_empty_last : List (List ℕ) → List (List ℕ)
without_empty_last [] = []
without_empty_last ([] ∷ []) = []
without_empty_last ((x ∷ t) ∷ []) = (x ∷ t) ∷ []
without_empty_last (t ∷ u ∷ ts) = t ∷ without_empty_last (u ∷ ts)

-- lines without their LF
abbrev pub lines_of : List ℕ → List (List ℕ)
lines_of xs = without_empty_last (split_on 10 xs)

-- with the place where each begins
abbrev pub lines : List ℕ → List Part
lines xs = placed 0 (lines_of xs)
