-- The longest front of a part whose octets pass a test, found piece by piece.
use Prim.Native.Nat.{ℕ, ◌+◌, ◌≤◌, ◌<◌}
use mathlib.Core.Path.{◌≡◌, refl}
use mathlib.Core.Bool.{Bool, true, false}
use mathlib.Core.List.{List, [], ◌∷◌, ◌++◌}
use native.Mathlib.Omega.{arith}
use lib.ListN.{length}
use lib.Seq.{slice, length-slice}
use Rattle.format.specs.Lists.{spanning, span}
use Rattle.octets.proofs.Slices.{front_within}
use Rattle.octets.proofs.Blocks.{slice_append}
use Rattle.octets.specs.Octets.{front_end}

module _ (f : ℕ → Bool) where
  -- a front that ends in the first part, and one that is all of it and goes on
  span_part : (xs ys : List ℕ) → length (span f xs).front < length xs → length (span f (xs ++ ys)).front ≡ length (span f xs).front
  span_part [] ys h = absurd (omega arith)
  span_part (x ∷ xs) ys h = by (f x) h (span_part xs ys)
    where
      by : (b : Bool) → length (spanning b x xs (span f xs)).front < length (x ∷ xs)
          → (length (span f xs).front < length xs → length (span f (xs ++ ys)).front ≡ length (span f xs).front)
          → length (spanning b x (xs ++ ys) (span f (xs ++ ys))).front ≡ length (spanning b x xs (span f xs)).front
      by true h ih = rw (ih (omega arith))
      by false h ih = refl

  span_all : (xs ys : List ℕ) → length (span f xs).front ≡ length xs → length (span f (xs ++ ys)).front ≡ length xs + length (span f ys).front
  span_all [] ys h = omega arith
  span_all (x ∷ xs) ys h = by (f x) h (span_all xs ys)
    where
      by : (b : Bool) → length (spanning b x xs (span f xs)).front ≡ length (x ∷ xs)
          → (length (span f xs).front ≡ length xs → length (span f (xs ++ ys)).front ≡ length xs + length (span f ys).front)
          → length (spanning b x (xs ++ ys) (span f (xs ++ ys))).front ≡ length (x ∷ xs) + length (span f ys).front
      by true h ih = omega (arith, ih (omega arith))
      by false h ih = absurd (omega arith)

  module _ (t : List ℕ) (i e : ℕ) (h : i ≤ e) (l : e ≤ length t) where
    parts : slice i (length t) t ≡ slice i e t ++ slice e (length t) t
    parts = slice_append t i e (length t) h l (omega arith)

    pub part_front : front_end f t i e < e → front_end f t i e ≡ front_end f t i (length t)
    part_front k = rw (parts, span_part (slice i e t) (slice e (length t) t) (omega (arith, length-slice i e t l)))

    pub whole_front : e ≤ front_end f t i e → front_end f t e (length t) ≡ front_end f t i (length t)
    whole_front k = rw (parts, span_all (slice i e t) (slice e (length t) t) (omega (arith, length-slice i e t l, front_within f t i e h l))) (omega (arith, length-slice i e t l))
