-- Symbols, and names that are told apart by their numbers.
use Rattle.std.specs.Prelude.{ℕ, ◌+◌, ◌-◌, ◌*◌, ◌%◌, ◌≤◌, ◌≡◌, Bool, not, cond, List, map, eqb, length, take, get_or, Option, None, Some}
use Prim.Native.Char.{code}
use Rattle.format.specs.Octets.{lowered, name_octet}
use Rattle.format.specs.Grammar.{symbol, qualifier}
use Rattle.octets.specs.Octets.{part_in, front_end}
use Rattle.stanza_words.specs.Qualifiers.{pieces_in, name_in}
use Rattle.parts.specs.Parts.{part_of}
use Rattle.stanza_distinct.specs.declared.Symbol.{Symbol}

-- the octet, in lower case if `ignoring`
abbrev pub folded : Bool → ℕ → ℕ
folded ignoring x = cond ignoring (lowered x) x

-- a number made of a name's length and its first and last octets: names that are the same have the same number
abbrev pub bucket_of : Bool → List ℕ → ℕ
bucket_of ignoring t = ((length t % 32 + folded ignoring (get_or t 0 0)) * 8 + folded ignoring (get_or t (length t - 1) 0)) % 256

-- the place of the next comma from i on, or b
abbrev pub comma_at : List ℕ → ℕ → ℕ → ℕ
comma_at s i b = front_end (λ x. not (eqb x (code ","))) s i b

-- a symbol that starts at i and ends at the next comma or at b
pub record Placed (s : List ℕ) (i b : ℕ) (x : Symbol) : Type 0 where
  pub ends : x.end ≡ comma_at s i b
  pub name : x.name_end ≡ front_end name_octet s i x.end
  pub is : qualifier (part_in s i x.end) ≡ Some (symbol (record { spelling = part_in s i x.name_end; value = x.number }))

abbrev pub SymbolAt : List ℕ → ℕ → ℕ → Option Symbol → Type 0
SymbolAt s i b None = Unit {0}
SymbolAt s i b (Some x) = Placed s i b x

-- the first n of two lists name the parts that the qualifiers' names are
pub record Named (s : List ℕ) (a b : ℕ) (list other : List ℕ) (n : ℕ) : Type 0 where
  pub fits : n ≤ length list
  pub names : map (part_of s) (take n list) ≡ map name_in (pieces_in s a b)
  pub same : take n other ≡ take n list
