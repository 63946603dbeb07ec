-- Octets: numbers below 256, and the classes of them that document 01 names.
use Rattle.std.specs.Prelude.{ℕ, ◌+◌, ◌<◌, Bool, true, false, cond, ◌&&◌, ◌||◌, List, [], ◌∷◌, leb, eqb}
use Prim.Native.Char.{code}
use Rattle.format.specs.Lists.{any_of, split}
use Prim.Native.String.{String, [] as none, ◌∷◌ as ◌then◌}

-- every number of a list is below b
abbrev pub Below : ℕ → List ℕ → Type 0
Below b [] = Unit {0}
Below b (x ∷ xs) = (x < b) × Below b xs

-- a list of octets, as every slice of octets is
abbrev pub Octets : List ℕ → Type 0
Octets xs = Below 256 xs

-- the octets of an ASCII text
abbrev pub ascii : String → List ℕ
ascii none = []
ascii (c then s) = code c ∷ ascii s

-- from lo to hi, both included
abbrev pub in_range : ℕ → ℕ → ℕ → Bool
in_range lo hi x = leb lo x && leb x hi

-- x is one of them
abbrev pub among : ℕ → List ℕ → Bool
among x xs = any_of (eqb x) xs

-- "Blank means space or tab."
abbrev pub blank : ℕ → Bool
blank x = eqb x (code " ") || eqb x 9

-- 0 to 9
abbrev pub digit : ℕ → Bool
digit x = in_range (code "0") (code "9") x

-- A to Z, a to z
abbrev pub letter : ℕ → Bool
letter x = in_range (code "A") (code "Z") x || in_range (code "a") (code "z") x

-- "letters and digits"
abbrev pub alphanumeric : ℕ → Bool
alphanumeric x = letter x || digit x

-- letters, digits, hyphens
abbrev pub name_octet : ℕ → Bool
name_octet x = letter x || digit x || eqb x (code "-")

-- the same octets
abbrev pub same_octets : List ℕ → List ℕ → Bool
same_octets [] [] = true
same_octets [] (y ∷ ys) = false
same_octets (x ∷ xs) [] = false
same_octets (x ∷ xs) (y ∷ ys) = eqb x y && same_octets xs ys

-- the parts between the octets c: one more than those
abbrev pub split_on : ℕ → List ℕ → List (List ℕ)
split_on c t = split (λ x. eqb x c) t

-- "letters' case ignored"
abbrev pub lowered : ℕ → ℕ
lowered x = cond (in_range (code "A") (code "Z") x) (x + 32) x

-- the same but for the case of letters
abbrev pub same_word : List ℕ → List ℕ → Bool
same_word [] [] = true
same_word [] (y ∷ ys) = false
same_word (x ∷ xs) [] = false
same_word (x ∷ xs) (y ∷ ys) = eqb (lowered x) (lowered y) && same_word xs ys
