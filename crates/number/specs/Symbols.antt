-- The symbols of an integer field, among the qualifiers of its line.
use Rattle.std.specs.Prelude.{ℕ, Bool, List, [], ◌∷◌}
use Rattle.std.specs.Prelude.{Option, None, Some}
use Rattle.format.specs.Lists.{provided, or_else}
use Rattle.format.specs.Field.{Symbol}
use Rattle.format.specs.Grammar.{Qualifier, word, symbol, qualifier}
use Rattle.stanza_words.specs.Qualifiers.{pieces_in}

-- the first value that a partial function gives
abbrev pub first_of : {A B : Type 0} → (A → Option B) → List A → Option B
first_of f [] = None
first_of f (x ∷ xs) = or_else (f x) (first_of f xs)

-- a partial function of symbols, applied to a qualifier
abbrev pub if_symbol : {B : Type 0} → (Symbol → Option B) → Option Qualifier → Option B
if_symbol f None = None
if_symbol f (Some (word t)) = None
if_symbol f (Some (symbol y)) = f y

-- the first value that a partial function of symbols gives among the qualifiers from a to b, of which there is at least one
abbrev pub first_in : {B : Type 0} → (Symbol → Option B) → List ℕ → ℕ → ℕ → Option B
first_in f s a b = first_of (λ p. if_symbol f (qualifier p)) (pieces_in s a b)

-- the name and the number of a symbol that passes a test of them
abbrev pub passing : (List ℕ → ℕ → Bool) → Symbol → Option (List ℕ × ℕ)
passing test y = provided (test y.spelling.octets y.value) (y.spelling.octets, y.value)
