-- Names of types that the caller lends (document 02, 3): "a catalogue of up to 512 entries, each a type number and where its name lies in a lent text".
use Rattle.std.specs.Prelude.{ℕ, suc, ◌+◌, Bool, not, cond, ◌&&◌, ◌||◌, List, [], ◌∷◌, ◌++◌, length, take, drop, leb, ltb, eqb}
use Rattle.std.specs.Prelude.{Option, None, Some}
use Rattle.format.specs.Lists.{◌>>=◌, provided, null, any_of, all_of}
use Rattle.format.specs.Octets.{ascii, digit, same_word}
use Rattle.format.specs.Digits.{digits}
use Rattle.format.specs.Rrtype.{type_text, type_number}
use Rattle.format.specs.Grammar.{is_name}

-- An entry as it is lent: "a type number and where its name lies in a lent text".
pub record Entry : Type 0 where
  pub type_no : ℕ
  pub start : ℕ
  pub size : ℕ

-- A type with its name.
pub record TypeName : Type 0 where
  pub type_no : ℕ
  pub spelled : List ℕ

-- the part of the lent text, if it lies in it
abbrev pub name_of_entry : List ℕ → Entry → Option (List ℕ)
name_of_entry names e = provided (leb (e.start + e.size) (length names)) (take e.size (drop e.start names))

-- "`TYPE` and one or more digits", "ignoring case"
abbrev pub is_type_number : List ℕ → Bool
is_type_number t = same_word (take 4 t) (ascii "TYPE") && not (null (drop 4 t)) && all_of digit (drop 4 t)

-- "bad in itself": "within 0 to 65,535"; "Names follow the header's name rule"; "none is `TYPE` and one or more digits"
abbrev pub good_alone : TypeName → Bool
good_alone n = leb n.type_no 65535 && is_name n.spelled && not (is_type_number n.spelled)

-- "or against earlier ones": "strictly rising by number"; "ignoring case, they are distinct"
abbrev pub clashes : TypeName → TypeName → Bool
clashes earlier n = leb n.type_no earlier.type_no || same_word earlier.spelled n.spelled

-- good in itself and against earlier ones
abbrev pub if_good : List TypeName → TypeName → Option TypeName
if_good earlier n = provided (good_alone n && not (any_of (λ m. clashes m n) earlier)) n

-- the entry after those earlier ones, if it is good
abbrev pub entry_after : List TypeName → List ℕ → Entry → Option TypeName
entry_after earlier names e = name_of_entry names e >>= λ t. if_good earlier (record { type_no = e.type_no; spelled = t })

-- 13's place; or the names of types.
pub data Catalogued : Type 0 where
  bad_entry : ℕ → Catalogued
  known : List TypeName → Catalogued

-- "place the first entry (from 1) bad": no entry after it is judged
abbrev pub after_entry : Option TypeName → ℕ → (TypeName → Catalogued) → Catalogued
after_entry None i f = bad_entry i
after_entry (Some n) i f = f n

-- the entries after those earlier ones: "or a 513th"
unfoldable pub catalogued_from : List TypeName → List ℕ → List Entry → Catalogued
catalogued_from earlier names [] = known earlier
catalogued_from earlier names (e ∷ es) =
    after_entry (cond (ltb (length earlier) 512) (entry_after earlier names e) None) (suc (length earlier)) (λ n. catalogued_from (earlier ++ n ∷ []) names es)

-- "a catalogue of up to 512 entries": all its entries, in order
abbrev pub catalogued : List ℕ → List Entry → Catalogued
catalogued names es = catalogued_from [] names es

-- "R and R[L] print the name if the entry exists"; "other types stay TYPEnnn"
abbrev pub type_text_in : List TypeName → ℕ → List ℕ
type_text_in [] n = type_text n
type_text_in (m ∷ ms) n = cond (eqb m.type_no n) m.spelled (type_text_in ms n)

-- "and read either form, ignoring case"
abbrev pub type_number_in : List TypeName → List ℕ → Option ℕ
type_number_in [] t = type_number t
type_number_in (m ∷ ms) t = cond (same_word m.spelled t) (Some m.type_no) (type_number_in ms t)

-- as two octets
abbrev pub read_type_in : List TypeName → List ℕ → Option (List ℕ)
read_type_in ms t = type_number_in ms t >>= λ n. Some (digits 256 2 n)
