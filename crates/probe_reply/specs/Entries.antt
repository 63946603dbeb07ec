-- The entries of a catalogue, from the octets of a line's word.
use Rattle.std.specs.Prelude.{ℕ, zero, suc, ◌/◌, List, [], ◌∷◌, length, take, drop}
use Rattle.format.specs.Catalogue.{Entry}
use Rattle.format.specs.Digits.{number}

-- "entries of 8 octets, big-endian: number 4, start 2, length 2"
abbrev pub entry_of : List ℕ → Entry
entry_of xs = record { type_no = number 256 (take 4 xs); start = number 256 (take 2 (drop 4 xs)); size = number 256 (take 2 (drop 6 xs)) }

-- so many entries, one after another
abbrev pub entries_from : ℕ → List ℕ → List Entry
entries_from zero xs = []
entries_from (suc n) xs = entry_of xs ∷ entries_from n (drop 8 xs)

-- all of them
abbrev pub entries_in : List ℕ → List Entry
entries_in xs = entries_from (length xs / 8) xs
