-- The grammar of a header and of a field line, after the leading blanks. `end` is the place where the line ends.
use Rattle.std.specs.Prelude.{ℕ, ◌-◌, Bool, false, not, cond, ◌&&◌, List, [], ◌∷◌, ◌++◌, length, leb, eqb}
use Prim.Native.Char.{code}
use Rattle.std.specs.Prelude.{Option, None, Some}
use Rattle.format.specs.Lists.{◌>>=◌, provided, each_of, null, all_of, Spanned, span}
use Rattle.format.specs.Octets.{in_range, blank, digit, letter, alphanumeric, name_octet, split_on}
use Rattle.format.specs.Field.{Part, Symbol}
use Rattle.format.specs.Number.{decimal_of}
use Rattle.format.specs.Lines.{placed}

-- the part of a line that begins where `rest` does
abbrev pub part_at : ℕ → List ℕ → List ℕ → Part
part_at end rest t = record { place = end - length rest; octets = t }

-- "a name (letter, then letters, digits, hyphens)"; "Names and symbols have at most 63 octets."
abbrev pub starts_with_letter : List ℕ → Bool
starts_with_letter [] = false
starts_with_letter (x ∷ t) = letter x

-- all of it is a name
abbrev pub is_name : List ℕ → Bool
is_name t = starts_with_letter t && all_of name_octet t && leb (length t) 63

-- a name at the front
abbrev pub if_name : Spanned → Option Spanned
if_name s = provided (is_name s.front) s

-- the longest front of such octets, if it is a name
abbrev pub name_at : List ℕ → Option Spanned
name_at t = if_name (span name_octet t)

-- the rest after the octet c
abbrev pub after : ℕ → List ℕ → Option (List ℕ)
after c [] = None
after c (x ∷ t) = provided (eqb x c) t

-- "optionally blank and free text .. Free text, after exactly one blank, is octets 20 to FE hex"
abbrev pub free_text_at : ℕ → List ℕ → Option Part
free_text_at end [] = Some (part_at end [] [])
free_text_at end (x ∷ t) = provided (blank x && all_of (in_range 0x20 0xFE) t) (part_at end t t)

-- The header: the type's name and number, and the free text.
pub record Header : Type 0 where
  pub type_name : Part
  pub type_no : ℕ
  pub header_text : Part

-- a decimal number at the front
pub record Numbered : Type 0 where
  pub value : ℕ
  pub rest : List ℕ

-- "digits", as a number
abbrev pub if_decimal : Spanned → Option Numbered
if_decimal s = decimal_of s.front >>= λ n. Some (record { value = n; rest = s.rest })

-- "then optionally `:` and letters": the rest
abbrev pub if_letters : Spanned → Option (List ℕ)
if_letters s = provided (not (null s.front)) s.rest

-- they may be left out
abbrev pub after_options : List ℕ → Option (List ℕ)
after_options [] = Some []
after_options (x ∷ t) = cond (eqb x (code ":")) (if_letters (span letter t)) (Some (x ∷ t))

-- "a name .., `:`, digits, then optionally `:` and letters, then optionally blank and free text"
abbrev pub header_line : ℕ → List ℕ → Option Header
header_line end t = do
  named ← name_at t
  u ← after (code ":") named.rest
  n ← if_decimal (span digit u)
  r ← after_options n.rest
  text ← free_text_at end r
  Some (record { type_name = part_at end t named.front; type_no = n.value; header_text = text })

-- "A qualifier is a name, or name`=`digits."
pub data Qualifier : Type 0 where
  word : List ℕ → Qualifier
  symbol : Symbol → Qualifier

-- a word alone, or with its number, where the name stands at `at`
abbrev pub if_qualifier : ℕ → Spanned → Option Qualifier
if_qualifier at s = cond (null s.rest) (Some (word s.front)) (do
  ds ← after (code "=") s.rest
  n ← decimal_of ds
  Some (symbol (record { spelling = record { place = at; octets = s.front }; value = n })))

-- all of a part is one qualifier
abbrev pub qualifier : Part → Option Qualifier
qualifier p = name_at p.octets >>= if_qualifier p.place

-- "optional `[` qualifiers `]` parted by single commas"
pub record Qualified : Type 0 where
  pub qualifiers : List Qualifier
  pub rest : List ℕ

-- what the qualifiers are made of
abbrev pub not_bracket : ℕ → Bool
not_bracket x = not (eqb x (code "]"))

-- each between two commas, and `]` after the last
abbrev pub if_qualifiers : ℕ → Spanned → Option Qualified
if_qualifiers at s = do
  qs ← each_of qualifier (placed at (split_on (code ",") s.front))
  r ← after (code "]") s.rest
  Some (record { qualifiers = qs; rest = r })

-- they may be left out
abbrev pub qualifiers_at : ℕ → List ℕ → Option Qualified
qualifiers_at end [] = Some (record { qualifiers = []; rest = [] })
qualifiers_at end (x ∷ t) =
    cond (eqb x (code "[")) (if_qualifiers (end - length t) (span not_bracket t)) (Some (record { qualifiers = []; rest = x ∷ t }))

-- "optional `:` and name"
abbrev pub field_name_at : List ℕ → Option Spanned
field_name_at [] = Some (record { front = []; rest = [] })
field_name_at (x ∷ t) = cond (eqb x (code ":")) (name_at t) (Some (record { front = []; rest = x ∷ t }))

-- A field line by the grammar alone.
pub record FieldLine : Type 0 where
  pub keyword : List ℕ
  pub qualifiers : List Qualifier
  pub field_name : Part
  pub free_text : Part

-- "A field type is a letter, then letters and digits."
abbrev pub if_type : Spanned → Option Spanned
if_type s = provided (starts_with_letter s.front) s

-- "type, optional `[` qualifiers `]` .., optional `:` and name, optional blank and free text"
abbrev pub field_line : ℕ → List ℕ → Option FieldLine
field_line end t = do
  k ← if_type (span alphanumeric t)
  q ← qualifiers_at end k.rest
  n ← field_name_at q.rest
  text ← free_text_at end n.rest
  Some (record { keyword = k.front; qualifiers = q.qualifiers; field_name = part_at end (n.front ++ n.rest) n.front; free_text = text })
