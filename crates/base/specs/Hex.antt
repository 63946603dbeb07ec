-- Hex digits from a table (document 02, 2): "Not one answer changes."
use Rattle.std.specs.Prelude.{ℕ, ◌/◌, ◌%◌, ◌<◌, ◌≡◌, List, [], ◌∷◌, map}
use Rattle.format.specs.Lists.{flat_map}
use Rattle.format.specs.Octets.{ascii}
use Rattle.format.specs.Digits.{digits, upper_digit}
use Rattle.base.specs.Alphabet.{chars}

-- "each digit comes from a table": the two of an octet, and those of octets
abbrev pub from_table : List ℕ → ℕ → List ℕ
from_table t x = chars t (x / 16 ∷ x % 16 ∷ [])

abbrev pub table_text : List ℕ → List ℕ → List ℕ
table_text t xs = flat_map (from_table t) xs

-- "a table of sixteen characters"
abbrev pub hex_table : List ℕ
hex_table = ascii "0123456789ABCDEF"

-- "proved for each of the 256 octets to give the old two"
abbrev pub OldTwo : Type 0
OldTwo = (x : ℕ) → x < 256 → from_table hex_table x ≡ map upper_digit (digits 16 2 x)
