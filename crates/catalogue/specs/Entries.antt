-- A catalogue's entries as numbers, and what they say of a lent text.
use Rattle.std.specs.Prelude.{ℕ, ◌+◌, ◌/◌, ◌%◌, ◌<◌, ◌≤◌, ◌≡◌, cond, List, [], ◌∷◌, length, take, drop, get_or, eqb}
use Rattle.std.specs.Prelude.{Option, None, Some}
use Rattle.std.specs.List.{position}
use Rattle.format.specs.Octets.{same_word}
use Rattle.format.specs.Catalogue.{Entry, TypeName, known, catalogued}

-- the entry in a number: the type number in the upper half, then 16 bits each for where its name starts and how long it is
abbrev pub entry_at : ℕ → Entry
entry_at w = record { type_no = w / 4294967296; start = w / 65536 % 65536; size = w % 65536 }

abbrev pub entries_at : List ℕ → List Entry
entries_at [] = []
entries_at (w ∷ ws) = entry_at w ∷ entries_at ws

-- the name that it points at
abbrev pub spelled_at : List ℕ → ℕ → List ℕ
spelled_at names w = take (entry_at w).size (drop (entry_at w).start names)

-- the types that the entries name
abbrev pub names_of : List ℕ → List ℕ → List TypeName
names_of names [] = []
names_of names (w ∷ ws) = record { type_no = (entry_at w).type_no; spelled = spelled_at names w } ∷ names_of names ws

-- the entries are a catalogue that is not refused
abbrev pub Listed : List ℕ → List ℕ → Type 0
Listed names ws = catalogued names (entries_at ws) ≡ known (names_of names ws)

-- each number is above the one before
abbrev pub Rising : List ℕ → Type 0
Rising ws = (i j : ℕ) → i < j → j < length ws → (entry_at (get_or ws i 0)).type_no < (entry_at (get_or ws j 0)).type_no

-- what is known of each entry of a catalogue that is not refused
pub record Within (names : List ℕ) (w : ℕ) : Type 0 where
  pub in_text : (entry_at w).start + (entry_at w).size ≤ length names
  pub short : (entry_at w).size ≤ 63
  pub low : (entry_at w).type_no < 65536

-- the place of the first entry with the number v
abbrev pub place_of : List ℕ → ℕ → Option ℕ
place_of ws v = position (λ w. eqb (entry_at w).type_no v) ws

-- the number of the type whose name is t, case ignored
abbrev pub name_number : List TypeName → List ℕ → Option ℕ
name_number [] t = None
name_number (m ∷ ms) t = cond (same_word m.spelled t) (Some m.type_no) (name_number ms t)
