-- The types, the qualifiers that each takes, and what they come to.
use Rattle.std.specs.Prelude.{ℕ, ◌^◌, Bool, false, not, cond, ◌&&◌, List, [], ◌∷◌, ltb}
use Prim.Native.String.{String}
use Rattle.std.specs.Prelude.{Option, None, Some}
use Rattle.format.specs.Lists.{◌>>=◌, provided, each_of, null, any_of, all_of, twice}
use Rattle.format.specs.Octets.{ascii, same_octets, same_word}
use Rattle.format.specs.Field.{Symbol, Kind, int, rrtype, bitmap, a4, aa, aaaa, name, str, strs, raw, b32, b64, hex, hexc, eui, time}
use Rattle.format.specs.Grammar.{Qualifier, word, symbol}

-- What a type takes: symbols, on an integer of w octets; or words, and the kind that those given make (none: not together).
pub data Takes : Type 0 where
  symbols : ℕ → Takes
  words : List (List ℕ) → (List (List ℕ) → Option Kind) → Takes

-- A row of the table of types.
pub record TypeRow : Type 0 where
  pub type_word : List ℕ
  pub takes : Takes

-- a row, by its keyword
abbrev pub row : String → Takes → TypeRow
row k t = record { type_word = ascii k; takes = t }

-- a type that takes no qualifier
abbrev pub no_words : Kind → Takes
no_words k = words [] (λ given. Some k)

-- whether w is among the words
abbrev pub has_word : List (List ℕ) → List ℕ → Bool
has_word ws w = any_of (same_octets w) ws

-- "C, A, L, O on N"
abbrev pub name_kind : List (List ℕ) → Kind
name_kind given = name (record {
  compressed = has_word given (ascii "C");
  mailbox = has_word given (ascii "A");
  lower_case = has_word given (ascii "L");
  optional = has_word given (ascii "O");
})

-- "M or X on S, not both"
abbrev pub string_kind : List (List ℕ) → Option Kind
string_kind given =
    cond (has_word given (ascii "M")) (provided (not (has_word given (ascii "X"))) strs)
    (Some (cond (has_word given (ascii "X")) raw str))

-- "Types: I1 I2 I4 R A AA AAAA N S B32 B64 X T, and EUI48 EUI64 (also written X6 X8 ..). Keywords are upper case.
-- Qualifiers: symbols on I1, I2, I4; L on R; C, A, L, O on N; M or X on S, not both; C on X."
abbrev pub type_rows : List TypeRow
type_rows =
    row "I1" (symbols 1) ∷ row "I2" (symbols 2) ∷ row "I4" (symbols 4) ∷
    row "R" (words (ascii "L" ∷ []) (λ given. Some (cond (null given) rrtype bitmap))) ∷
    row "A" (no_words a4) ∷ row "AA" (no_words aa) ∷ row "AAAA" (no_words aaaa) ∷
    row "N" (words (ascii "C" ∷ ascii "A" ∷ ascii "L" ∷ ascii "O" ∷ []) (λ given. Some (name_kind given))) ∷
    row "S" (words (ascii "M" ∷ ascii "X" ∷ []) string_kind) ∷
    row "B32" (no_words b32) ∷ row "B64" (no_words b64) ∷
    row "X" (words (ascii "C" ∷ []) (λ given. Some (cond (null given) hex hexc))) ∷
    row "T" (no_words time) ∷
    row "EUI48" (no_words (eui 6)) ∷ row "EUI64" (no_words (eui 8)) ∷ row "X6" (no_words (eui 6)) ∷ row "X8" (no_words (eui 8)) ∷ []

-- what a type takes, if it is known
abbrev pub takes_of : List TypeRow → List ℕ → Option Takes
takes_of [] k = None
takes_of (r ∷ rs) k = cond (same_octets k r.type_word) (Some r.takes) (takes_of rs k)

-- a word that some type takes is known
abbrev pub words_of : Takes → List (List ℕ)
words_of (symbols w) = []
words_of (words ws f) = ws

abbrev pub known_word : List ℕ → Bool
known_word w = any_of (λ r. has_word (words_of r.takes) w) type_rows

abbrev pub unknown_word : Qualifier → Bool
unknown_word (word w) = not (known_word w)
unknown_word (symbol s) = false

-- the symbols, if there is nothing else: "a symbol number too big for its field"
abbrev pub symbol_of : ℕ → Qualifier → Option Symbol
symbol_of w (word t) = None
symbol_of w (symbol s) = provided (ltb s.value (256 ^ w)) s

-- the word, if it is not a symbol
abbrev pub word_of : Qualifier → Option (List ℕ)
word_of (word t) = Some t
word_of (symbol s) = None

-- "a symbol twice .. (letters' case ignored)"
abbrev pub same_symbol : Symbol → Symbol → Bool
same_symbol s t = same_word s.spelling.octets t.spelling.octets

-- the kind of known qualifiers that are allowed there: "a qualifier twice", "M with X"
abbrev pub allowed : Takes → List Qualifier → Option Kind
allowed (symbols w) qs = each_of (symbol_of w) qs >>= λ l. provided (not (twice same_symbol l)) (int w l)
allowed (words ws f) qs = each_of word_of qs >>= λ given. cond (all_of (has_word ws) given && not (twice same_octets given)) (f given) None

-- What a type with its qualifiers is: not known (3), not allowed (4), or a kind.
pub data Meaning : Type 0 where
  unknown : Meaning
  forbidden : Meaning
  means : Kind → Meaning

-- 4 where there is no kind
abbrev pub or_forbidden : Option Kind → Meaning
or_forbidden None = forbidden
or_forbidden (Some k) = means k

-- 3 before 4
abbrev pub meaning_of : Option Takes → List Qualifier → Meaning
meaning_of None qs = unknown
meaning_of (Some t) qs = cond (any_of unknown_word qs) unknown (or_forbidden (allowed t qs))

-- a type by the table
abbrev pub meaning : List ℕ → List Qualifier → Meaning
meaning k qs = meaning_of (takes_of type_rows k) qs
