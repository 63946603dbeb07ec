-- The texts of parts, with marks between them.
use Prim.Native.Nat.{ℕ, ◌+◌, ◌*◌, ◌≤◌, ◌<◌}
use mathlib.Core.Path.{◌≡◌, refl, sym, ap, ap₂, ◌∙◌}
use mathlib.Core.List.{List, [], ◌∷◌, ◌++◌}
use native.Mathlib.Omega.{arith}
use lib.ListN.{length, take, drop, length-map, take-append-drop}
use Rattle.format.specs.Digits.{digits, number, lower_digit}
use Rattle.format.proofs.Digits.{digits_length}
use Rattle.format.proofs.Number.{decimal_10}
use Rattle.address.specs.declared.part.PartForm.{PartForm}
use Rattle.address.specs.declared.part.PartForm.TheVariants.{Pair, Small, Group}
use Rattle.address.specs.Part.{width_of, numbers_of, text_of}
use Rattle.address.proofs.GroupTexts.{group_short}

-- the number of one part, and those after it
one_part : (f : PartForm) (x r : List ℕ) → length x ≡ width_of f → numbers_of f (x ++ r) ≡ number 256 x ∷ numbers_of f r
one_part Pair [] r h = absurd (omega arith)
one_part Pair (a ∷ []) r h = let q : a ≡ 0 * 256 + a = omega arith in ap (λ n. n ∷ r) q
one_part Pair (a ∷ b ∷ x) r h = absurd (omega arith)
one_part Small [] r h = absurd (omega arith)
one_part Small (a ∷ []) r h = let q : a ≡ 0 * 256 + a = omega arith in ap (λ n. n ∷ r) q
one_part Small (a ∷ b ∷ x) r h = absurd (omega arith)
one_part Group [] r h = absurd (omega arith)
one_part Group (a ∷ []) r h = absurd (omega arith)
one_part Group (a ∷ b ∷ []) r h = let q : a * 256 + b ≡ (0 * 256 + a) * 256 + b = omega arith in ap (λ n. n ∷ numbers_of Group r) q
one_part Group (a ∷ b ∷ d ∷ x) r h = absurd (omega arith)

pub next_part : (f : PartForm) (n : ℕ) (p x r : List ℕ) → x ≡ take n p → r ≡ drop n p → length x ≡ width_of f → numbers_of f p ≡ number 256 x ∷ numbers_of f r
next_part f n p x r a b l = ap (numbers_of f) (sym (take-append-drop n p) ∙ ap₂ (λ s t. s ++ t) (sym a) (sym b)) ∙ one_part f x r l

pub no_part : (f : PartForm) (xs : List ℕ) → length xs < width_of f → numbers_of f xs ≡ []
no_part Pair [] h = refl
no_part Pair (x ∷ xs) h = absurd (omega arith)
no_part Small [] h = refl
no_part Small (x ∷ xs) h = absurd (omega arith)
no_part Group [] h = refl
no_part Group (x ∷ []) h = refl
no_part Group (x ∷ y ∷ xs) h = absurd (omega arith)

pub width_some : (f : PartForm) → 1 ≤ width_of f
width_some Pair = omega arith
width_some Small = omega arith
width_some Group = omega arith

pub text_short : (f : PartForm) (v : ℕ) → length (text_of f v) ≤ 10
text_short Pair v = omega (arith, length-map (digits 16 2 v) lower_digit, digits_length 16 2 v)
text_short Small v = decimal_10 v
text_short Group v = omega (arith, group_short v)
