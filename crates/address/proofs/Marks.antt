-- Where the first mark of a text stands.
use Prim.Native.Nat.{ℕ, suc, ◌+◌, ◌≤◌, ◌<◌}
use mathlib.Core.Path.{◌≡◌, refl, ap}
use mathlib.Core.Bool.{Bool, true, false}
use mathlib.Core.List.{List, [], ◌∷◌}
use native.Mathlib.Omega.{arith}
use native.Mathlib.Numerals.{add-one}
use lib.Dec.{ltb, eqb}
use lib.ListN.{length, take, drop}
use borrow.Author.Tests.{ltb-true, ltb-false}
use Rattle.std.specs.Prelude.{None, Some, cond, not, position}
use Rattle.std.specs.List.{position_or_len}
use Rattle.format.specs.Lists.{cons_first, parting}
use Rattle.format.specs.Octets.{split_on}

module _ (c : ℕ) where
  -- the place of the first mark, or the length
  abbrev place : List ℕ → ℕ
  place t = position_or_len (λ x. eqb x c) t

  -- the parts, if no mark stands in the text, or one
  none_stands : (t : List ℕ) → length t ≤ place t → split_on c t ≡ t ∷ []
  none_stands [] h = refl
  none_stands (x ∷ t) h = by (eqb x c) (none_stands t) h
    where
      by : (b : Bool) → (length t ≤ place t → split_on c t ≡ t ∷ []) → length (x ∷ t) ≤ cond (not b) (1 + place t) 0 → parting b x (split_on c t) ≡ (x ∷ t) ∷ []
      by true f k = absurd (omega arith)
      by false f k = ap (cons_first x) (f (omega arith))

  one_stands : (t : List ℕ) → place t < length t → split_on c t ≡ take (place t) t ∷ split_on c (drop (place t + 1) t)
  one_stands [] h = absurd (omega arith)
  one_stands (x ∷ t) h = by (eqb x c) (one_stands t) h
    where
      by : (b : Bool) → (place t < length t → split_on c t ≡ take (place t) t ∷ split_on c (drop (place t + 1) t)) → cond (not b) (1 + place t) 0 < length (x ∷ t)
          → parting b x (split_on c t) ≡ take (cond (not b) (1 + place t) 0) (x ∷ t) ∷ split_on c (drop (cond (not b) (1 + place t) 0 + 1) (x ∷ t))
      by true f k = refl
      by false f k =
          let q : 1 + place t ≡ suc (place t) = omega arith in
          simp (q, add-one) (ap (cons_first x) (simp add-one at (f (omega arith))))

  pub no_mark : (t : List ℕ) → position (λ x. eqb x c) t ≡ None → split_on c t ≡ t ∷ []
  no_mark t e = by (ltb (place t) (length t)) refl e
    where
      by : (b : Bool) → ltb (place t) (length t) ≡ b → cond b (Some (place t)) None ≡ None → split_on c t ≡ t ∷ []
      by true q f = cc
      by false q f = none_stands t (ltb-false _ _ q)

  pub at_mark : (t : List ℕ) (z : ℕ) → position (λ x. eqb x c) t ≡ Some z → split_on c t ≡ take z t ∷ split_on c (drop (z + 1) t)
  at_mark t z e = by (ltb (place t) (length t)) refl e
    where
      by : (b : Bool) → ltb (place t) (length t) ≡ b → cond b (Some (place t)) None ≡ Some z → split_on c t ≡ take z t ∷ split_on c (drop (z + 1) t)
      by true q f = let w : place t ≡ z = cc in rw w at (one_stands t (ltb-true _ _ q))
      by false q f = cc
