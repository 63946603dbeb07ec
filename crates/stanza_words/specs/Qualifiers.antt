-- The qualifiers between a and b in a stanza, and the tests made of them.
use Rattle.std.specs.Prelude.{ℕ, Bool, true, false, not, cond, Option, None, Some, List, [], ◌∷◌, map, eqb, ltb}
use Prim.Native.Char.{code}
use Rattle.std.proofs.Math.Seq.{slice}
use Rattle.format.specs.Lists.{any_of, each_of, twice, span}
use Rattle.format.specs.Octets.{ascii, name_octet, same_octets, same_word, split_on}
use Rattle.format.specs.Field.{Part}
use Rattle.format.specs.Lines.{placed}
use Rattle.format.specs.Grammar.{Qualifier, word, symbol, qualifier}
use Rattle.format.specs.Types.{unknown_word, has_word}
use Rattle.octets.specs.Octets.{part_in}
use Rattle.stanza_words.specs.declared.Qualifier.{Qualifier as FoundQualifier}
use Rattle.stanza_words.specs.declared.Qualifier.TheVariants.{Word, Numbered}
use Rattle.stanza_words.specs.declared.Test.{Test}
use Rattle.stanza_words.specs.declared.Test.TheVariants.{Malformed, Unknown, NotSymbol, NotWord, IsWord}
use Rattle.stanza_words.specs.declared.Words.{Words}
use Rattle.stanza_words.specs.declared.Words.TheVariants.{OnR, OnN, OnS, OnX}

-- the qualifier that the code found from a to z
abbrev pub found_in : List ℕ → ℕ → ℕ → Option FoundQualifier → Option Qualifier
found_in s a z None = None
found_in s a z (Some Word) = Some (word (slice a z s))
found_in s a z (Some (Numbered e v)) = Some (symbol (record { spelling = part_in s a e; value = v }))

-- the texts between the commas
abbrev pub pieces_in : List ℕ → ℕ → ℕ → List Part
pieces_in s a b = placed a (split_on (code ",") (slice a b s))

-- the qualifiers; none if a and b are equal
abbrev pub qualifiers_in : List ℕ → ℕ → ℕ → Option (List Qualifier)
qualifiers_in s a b = cond (eqb a b) (Some []) (each_of qualifier (pieces_in s a b))

-- the words that a type takes
abbrev pub words_for : Words → List (List ℕ)
words_for OnR = ascii "L" ∷ []
words_for OnN = ascii "C" ∷ ascii "A" ∷ ascii "L" ∷ ascii "O" ∷ []
words_for OnS = ascii "M" ∷ ascii "X" ∷ []
words_for OnX = ascii "C" ∷ []

-- whether a test holds of a qualifier; `none` is one that breaks the grammar
abbrev pub holds_of : Test → Option Qualifier → Bool
holds_of Malformed None = true
holds_of Malformed (Some q) = false
holds_of Unknown None = false
holds_of Unknown (Some q) = unknown_word q
holds_of (NotSymbol limit) None = true
holds_of (NotSymbol limit) (Some (word w)) = true
holds_of (NotSymbol limit) (Some (symbol s)) = not (ltb s.value limit)
holds_of (NotWord t) None = true
holds_of (NotWord t) (Some (word w)) = not (has_word (words_for t) w)
holds_of (NotWord t) (Some (symbol s)) = true
holds_of (IsWord x) None = false
holds_of (IsWord x) (Some (word w)) = same_octets (x ∷ []) w
holds_of (IsWord x) (Some (symbol s)) = false

-- some qualifier passes a test
abbrev pub any_in : Test → List ℕ → ℕ → ℕ → Bool
any_in t s a b = any_of (λ p. holds_of t (qualifier p)) (pieces_in s a b)

-- the name that a qualifier begins with
abbrev pub name_in : Part → List ℕ
name_in p = (span name_octet p.octets).front

-- names are the same, ignoring the case of letters or not
abbrev pub same_by : Bool → List ℕ → List ℕ → Bool
same_by true x y = same_word x y
same_by false x y = same_octets x y

-- some two qualifiers have the same name
abbrev pub twice_in : Bool → List ℕ → ℕ → ℕ → Bool
twice_in ignoring s a b = twice (same_by ignoring) (map name_in (pieces_in s a b))
