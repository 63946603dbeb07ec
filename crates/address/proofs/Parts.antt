-- A text that is read part by part.
use Prim.Native.Nat.{ℕ, suc, ◌-◌, ◌<◌}
use mathlib.Core.Path.{◌≡◌, refl, sym, ap, ◌∙◌}
use mathlib.Core.Bool.{Bool, true, false, not}
use mathlib.Core.List.{List, [], ◌∷◌, ◌++◌, append-nil}
use Rattle.std.specs.Prelude.{Option, None, Some}
use native.Mathlib.Omega.{arith}
use lib.Dec.{eqb, eqb-suc-suc, eqb-suc-zero}
use lib.ListN.{length}
use borrow.Author.Tests.{ne_eqb}
use Rattle.format.specs.Lists.{provided, cons_both, each_of, flat, span}
use Rattle.format.specs.Octets.{split_on}
use Rattle.octets.proofs.Lines.{cut_rest, cut_first}
use Rattle.buffer.specs.Writing.{after}
use Rattle.address.specs.Part.{joined, parts_by}

-- the octets of exactly w parts: the first part, and the others
joined_next : (w : ℕ) (xs : List ℕ) (o : Option (List (List ℕ))) → joined (suc w) (cons_both (Some xs) o) ≡ after xs (joined w o)
joined_next w xs None = refl
joined_next w xs (Some l) = rw (eqb-suc-suc (length l) w) (by (eqb (length l) w))
  where
    by : (b : Bool) → provided b (xs ++ flat l) ≡ after xs (provided b (flat l))
    by true = refl
    by false = refl

joined_zero : (o : Option (List ℕ)) (p : Option (List (List ℕ))) → joined 0 (cons_both o p) ≡ None
joined_zero None p = refl
joined_zero (Some xs) None = refl
joined_zero (Some xs) (Some l) = rw (eqb-suc-zero (length l))

module _ (c : ℕ) (p : List ℕ → Option (List ℕ)) (t : List ℕ) where
  pub none_left : parts_by c p 0 t ≡ None
  unfolding parts_by
  none_left = rw (cut_first c t) (joined_zero (p (span (λ x. not (eqb x c)) t).front) (each_of p (cut_rest c (span (λ x. not (eqb x c)) t).rest)))

  -- the first part has no value; or it has one, and the others follow
  module _ (s u : List ℕ) (k : ℕ) (e : split_on c t ≡ s ∷ split_on c u) where
    pub part_fault : p s ≡ None → parts_by c p k t ≡ None
    unfolding parts_by
    part_fault f = rw (e, f)

    pub part_next : (xs : List ℕ) → 0 < k → p s ≡ Some xs → parts_by c p k t ≡ after xs (parts_by c p (k - 1) u)
    unfolding parts_by
    part_next xs h f =
        let r : k ≡ suc (k - 1) = omega arith in
        ap (λ ts. joined k (each_of p ts)) e ∙ ap (λ o. joined k (cons_both o (each_of p (split_on c u)))) f
        ∙ ap (λ n. joined n (cons_both (Some xs) (each_of p (split_on c u)))) r ∙ joined_next (k - 1) xs (each_of p (split_on c u))

  -- the only part
  module _ (e : split_on c t ≡ t ∷ []) where
    pub part_one : parts_by c p 1 t ≡ p t
    unfolding parts_by
    part_one = rw e (by (p t))
      where
        by : (o : Option (List ℕ)) → joined 1 (cons_both o (Some [])) ≡ o
        by None = refl
        by (Some xs) = ap Some (append-nil xs)

    pub part_few : (k : ℕ) → (k ≡ 1 → ⊥) → parts_by c p k t ≡ None
    unfolding parts_by
    part_few k h = rw e (by (p t))
      where
        by : (o : Option (List ℕ)) → joined k (cons_both o (Some [])) ≡ None
        by None = refl
        by (Some xs) = rw (ne_eqb 1 k (λ q. h (sym q)))
