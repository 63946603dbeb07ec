-- Document 01's table of refusals, and document 02's numbers: the place that goes with each.
use Rattle.std.specs.Prelude.{ℕ, ◌+◌, ◌≤◌, ◌<◌, ◌≡◌, Bool, true, false, List, [], ◌∷◌, length}
use Rattle.format.specs.Text.{pieces}
use Rattle.format.specs.Lines.{lines}
use Rattle.format.specs.Stored.{Lent, as_file, as_stored}

-- whether a description is lent as it is stored
abbrev pub is_stored : Lent → Bool
is_stored (as_file stanza) = false
is_stored (as_stored edition txt) = true

-- how many lines it has; stored, "Line numbers are string numbers, the tag being 1" (document 02, 4)
abbrev pub line_count : Lent → ℕ
line_count (as_file stanza) = length (lines stanza)
line_count (as_stored edition txt) = length (pieces txt)

-- "line from 1": the number of a line of the description
abbrev pub IsLine : Lent → ℕ → Type 0
IsLine l i = (1 ≤ i) × (i ≤ line_count l)

-- "field in the run, from 1": the number of a field of a run of so many
abbrev pub InRun : ℕ → ℕ → Type 0
InRun many i = (1 ≤ i) × (i ≤ many)

-- A refusal's number and place, of a call with this description on a run of so many fields, lent so much room.
pub data Fixed (l : Lent) (many room : ℕ) : ℕ → ℕ → Type 0 where
  -- 1: "stanza over 8,192, text over 1,048,576, or RDATA over 65,535 octets"; "0"
  over_limit : Fixed l many room 1 0
  -- 2: "a stanza line breaks the grammar"; "line from 1"
  bad_line : {i : ℕ} → IsLine l i → Fixed l many room 2 i
  -- "or no header or no field line exists"; "or 0"
  no_line : Fixed l many room 2 0
  -- 3: "well-formed but unknown field type or qualifier, or any Z field"; "line"
  unknown_there : {i : ℕ} → IsLine l i → Fixed l many room 3 i
  -- 4: "known, but not allowed there"; "line"
  not_allowed : {i : ℕ} → IsLine l i → Fixed l many room 4 i
  -- 5: "a 65th field line"; "line"
  one_more : {i : ℕ} → IsLine l i → Fixed l many room 5 i
  -- 6: "the run's first field is below 1, or first less 1 plus length is over the stanza's field count"; "0"
  no_run : Fixed l many room 6 0
  -- 7: "the origin is not one whole wire name"; "0"
  no_origin : Fixed l many room 7 0
  -- 8: "the input ends before a field is complete"; "field in the run, from 1"
  cut_short : {i : ℕ} → InRun many i → Fixed l many room 8 i
  -- 9: "a value breaks its field's rule"; "field"
  breaks_rule : {i : ℕ} → InRun many i → Fixed l many room 9 i
  -- 10: "something is left after the last field"; "run length plus 1"
  left_over : {i : ℕ} → i ≡ many + 1 → Fixed l many room 10 i
  -- 11: "the RDATA would exceed 65,535 octets"; "0"
  over_rdata : Fixed l many room 11 0
  -- 12: "the result is longer than the room"; "octets needed"
  no_room : {n : ℕ} → room < n → Fixed l many room 12 n
  -- 13: "place the first entry (from 1) bad in itself or against earlier ones, or a 513th" (document 02, 3)
  bad_entry_lem : {i : ℕ} → 1 ≤ i → i ≤ 513 → Fixed l many room 13 i
  -- 8 again: "8 for a string cut short, place its number" (document 02, 4); of a stored description alone, as are 14 and 16
  cut_string : {i : ℕ} → is_stored l ≡ true → IsLine l i → Fixed l many room 8 i
  -- 14: "14 for a wrong or missing tag, place 1" (document 02, 4)
  bad_tag : is_stored l ≡ true → Fixed l many room 14 1
  -- 16: "16 for another edition, place 0" (document 02, 6)
  no_edition : is_stored l ≡ true → Fixed l many room 16 0

-- The numbers with which judging, printing and reading may refuse: 7 and 11 are for "text reading only".
abbrev pub judge_numbers : List ℕ
judge_numbers = 1 ∷ 2 ∷ 3 ∷ 4 ∷ 5 ∷ []

abbrev pub print_numbers : List ℕ
print_numbers = 1 ∷ 2 ∷ 3 ∷ 4 ∷ 5 ∷ 6 ∷ 8 ∷ 9 ∷ 10 ∷ 12 ∷ []

abbrev pub read_numbers : List ℕ
read_numbers = 1 ∷ 2 ∷ 3 ∷ 4 ∷ 5 ∷ 6 ∷ 7 ∷ 8 ∷ 9 ∷ 10 ∷ 11 ∷ 12 ∷ []

-- The same with a catalogue: 13 "after 7 (after 6 when printing)".
abbrev pub print_with_numbers : List ℕ
print_with_numbers = 1 ∷ 2 ∷ 3 ∷ 4 ∷ 5 ∷ 6 ∷ 8 ∷ 9 ∷ 10 ∷ 12 ∷ 13 ∷ []

abbrev pub read_with_numbers : List ℕ
read_with_numbers = 1 ∷ 2 ∷ 3 ∷ 4 ∷ 5 ∷ 6 ∷ 7 ∷ 8 ∷ 9 ∷ 10 ∷ 11 ∷ 12 ∷ 13 ∷ []

-- The same of a stored description (document 02, 4): 8, 14 and 16 are its judge's; no catalogue is named.
abbrev pub judge_stored_numbers : List ℕ
judge_stored_numbers = 1 ∷ 2 ∷ 3 ∷ 4 ∷ 5 ∷ 8 ∷ 14 ∷ 16 ∷ []

abbrev pub print_stored_numbers : List ℕ
print_stored_numbers = 1 ∷ 2 ∷ 3 ∷ 4 ∷ 5 ∷ 6 ∷ 8 ∷ 9 ∷ 10 ∷ 12 ∷ 14 ∷ 16 ∷ []

abbrev pub read_stored_numbers : List ℕ
read_stored_numbers = 1 ∷ 2 ∷ 3 ∷ 4 ∷ 5 ∷ 6 ∷ 7 ∷ 8 ∷ 9 ∷ 10 ∷ 11 ∷ 12 ∷ 14 ∷ 16 ∷ []

-- however a description is lent
abbrev pub judge_numbers_of : Lent → List ℕ
judge_numbers_of (as_file stanza) = judge_numbers
judge_numbers_of (as_stored edition txt) = judge_stored_numbers
