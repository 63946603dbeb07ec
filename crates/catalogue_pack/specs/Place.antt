-- The place of a type number among structs.
use Rattle.std.specs.Prelude.{ℕ, ◌<◌, ◌≡◌, List, length, get_or}
use Rattle.std.specs.Prelude.{Option, None, Some}
use Rattle.catalogue_pack.specs.declared.Entry.{Entry as Lent}

-- what stands past the end
abbrev pub no_lent : Lent
no_lent = record { number = 0; start = 0; length = 0 }

-- each type number is above those before it
abbrev pub Rising : List Lent → Type 0
Rising es = (i j : ℕ) → i < j → j < length es → (get_or es i no_lent).number < (get_or es j no_lent).number

-- the entry at that place has that type number; or there is no place, and no entry has the number
abbrev pub PlaceOf : List Lent → ℕ → Option ℕ → Type 0
PlaceOf es n (Some r) = (r < length es) × ((get_or es r no_lent).number ≡ n)
PlaceOf es n None = (i : ℕ) → i < length es → (get_or es i no_lent).number ≡ n → ⊥
