-- The first bad entry of a catalogue: what the code keeps of the entries before it.
use Rattle.std.specs.Prelude.{ℕ, zero, suc, ◌+◌, ◌*◌, ◌/◌, ◌%◌, ◌≤◌, ◌<◌, ◌≡◌, Bool, true, false, not, cond, ◌&&◌, ◌||◌, List, [], ◌∷◌, length, take, get_or, leb, ltb, Option, None, Some}
use Rattle.format.specs.Lists.{any_of, all_of}
use Rattle.format.specs.Octets.{name_octet, lowered, same_word}
use Rattle.format.specs.Catalogue.{TypeName, good_alone, Catalogued, bad_entry, known}
use Rattle.catalogue.specs.Entries.{entry_at, spelled_at, names_of}

-- the verdict where the first r entries are good, and the next, if there is one, is not
abbrev pub stopped_at : ℕ → List ℕ → List ℕ → Catalogued
stopped_at r names ws = cond (ltb r (length ws)) (bad_entry (suc r)) (known (names_of names ws))

-- an octet of a name, in lower case; 0 for any other octet
abbrev pub folded_octet : ℕ → ℕ
folded_octet x = cond (name_octet x) (lowered x) 0

-- these for n octets, from x on
abbrev pub folded_from : ℕ → ℕ → List ℕ
folded_from x zero = []
folded_from x (suc n) = folded_octet x ∷ folded_from (x + 1) n

-- the table of these for all octets
unfoldable pub folded_table : List ℕ
folded_table = folded_from 0 256

-- the number of a word after one octet more; by 129 names in which 16 octets change places in a pattern have the same number
abbrev pub mixed : ℕ → ℕ → ℕ
mixed h x = (h * 129 + x) % 72057594037927936

-- the number of a word that begins with the number h: the same for words that are the same but for case; none if it is no name
abbrev pub word_from : ℕ → List ℕ → Option ℕ
word_from h [] = Some h
word_from h (x ∷ t) = cond (name_octet x) (word_from (mixed h (lowered x)) t) None

-- which of 4,096 marks a word with that number sets
abbrev pub mark_of : ℕ → ℕ
mark_of h = h % 4294967296 * 2654435769 / 1048576 % 4096

-- the type that an entry names
abbrev pub type_at : List ℕ → ℕ → TypeName
type_at names w = record { type_no = (entry_at w).type_no; spelled = spelled_at names w }

-- the entry is good in itself
abbrev pub good_at : List ℕ → ℕ → Bool
good_at names w = leb ((entry_at w).start + (entry_at w).size) (length names) && good_alone (type_at names w)

-- entry k is bad in itself, or its number is not above all earlier ones
abbrev pub bad_after : List ℕ → List ℕ → ℕ → Bool
bad_after names ws k = not (good_at names (get_or ws k 0)) || any_of (λ v. leb (entry_at (get_or ws k 0)).type_no (entry_at v).type_no) (take k ws)

-- the name of v is the same as that of w
abbrev pub same_as : List ℕ → ℕ → ℕ → Bool
same_as names w v = same_word (spelled_at names v) (spelled_at names w)

-- the name of entry k is the same as an earlier one
abbrev pub met_before : List ℕ → List ℕ → ℕ → Bool
met_before names ws k = any_of (same_as names (get_or ws k 0)) (take k ws)

-- what is known of an entry whose name has the number h
pub record Known (names : List ℕ) (w h : ℕ) : Type 0 where
  pub in_text : (entry_at w).start + (entry_at w).size ≤ length names
  pub named : all_of name_octet (spelled_at names w) ≡ true
  pub number : word_from 0 (spelled_at names w) ≡ Some h

-- the numbers of the first n names
abbrev pub Hashed : List ℕ → List ℕ → List ℕ → ℕ → Type 0
Hashed names ws hashes n = (k : ℕ) → k < n → Known names (get_or ws k 0) (get_or hashes k 0)

-- of the first `limit` entries, n is the first that is bad in itself or does not rise; or n is the limit
pub record Front (names ws hashes : List ℕ) (limit n : ℕ) : Type 0 where
  pub within : n ≤ limit
  pub fits : n ≤ length hashes
  pub good : (k : ℕ) → k < n → bad_after names ws k ≡ false
  pub bad : n < limit → bad_after names ws n ≡ true
  pub hashed : Hashed names ws hashes n

-- of the first n entries, r is the first whose name is the same as an earlier one; or r is n
pub record Settled (names ws : List ℕ) (n r : ℕ) : Type 0 where
  pub within : r ≤ n
  pub fresh : (k : ℕ) → k < r → met_before names ws k ≡ false
  pub met : r < n → met_before names ws r ≡ true
