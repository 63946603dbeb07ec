-- Names that are the same as an earlier one: by their numbers, and by the marks that the numbers set.
use Prim.Native.Nat.{ℕ, zero, suc, ◌+◌, ◌≤◌, ◌<◌}
use mathlib.Core.Path.{◌≡◌, refl, sym, ap, ◌∙◌}
use mathlib.Core.Bool.{Bool, true, false, ◌||◌, or-true, true≢false}
use mathlib.Core.List.{List, [], ◌∷◌, ◌++◌}
use native.Mathlib.Omega.{arith}
use native.Mathlib.Numerals.{add-one}
use native.Mathlib.Nat.{mod-lt}
use lib.ListN.{length, take, get_or, set}
use lib.Seq.{take-suc, get_or-set_same, get_or-set_other}
use lib.Dec.{ltb, eqb}
use borrow.Author.Tests.{ltb-true, ltb-false, eqb-true, eqb-false}
use Rattle.format.specs.Lists.{any_of}
use Rattle.format.specs.Octets.{same_word}
use Rattle.format.proofs.Lists.{or_left, or_right}
use Rattle.std.specs.Prelude.{Some}
use Rattle.catalogue.specs.Entries.{spelled_at}
use Rattle.catalogue_judge.specs.Judging.{mark_of, same_as, met_before, Known, Hashed}
use Rattle.catalogue_judge.proofs.Words.{words_other}

pub take_next : (xs : List ℕ) (j : ℕ) → j < length xs → take (j + 1) xs ≡ take j xs ++ get_or xs j 0 ∷ []
take_next xs j l = rw add-one (take-suc xs j 0 l)

-- a test of the first elements of a list
module _ (f : ℕ → Bool) where
  any_snoc : (xs : List ℕ) (y : ℕ) → any_of f (xs ++ y ∷ []) ≡ any_of f xs || f y
  any_snoc [] y = by (f y)
    where
      by : (b : Bool) → b || false ≡ b
      by true = refl
      by false = refl
  any_snoc (x ∷ xs) y = by (f x) (any_snoc xs y)
    where
      by : (b : Bool) → any_of f (xs ++ y ∷ []) ≡ any_of f xs || f y → b || any_of f (xs ++ y ∷ []) ≡ (b || any_of f xs) || f y
      by true e = refl
      by false e = e

  pub any_next : (xs : List ℕ) (j : ℕ) → j < length xs → any_of f (take (j + 1) xs) ≡ any_of f (take j xs) || f (get_or xs j 0)
  any_next xs j l = ap (any_of f) (take_next xs j l) ∙ any_snoc (take j xs) (get_or xs j 0)

  any_at : (xs : List ℕ) (k j : ℕ) → j < k → k ≤ length xs → f (get_or xs j 0) ≡ true → any_of f (take k xs) ≡ true
  any_at [] k j h l e = absurd (omega arith)
  any_at (x ∷ xs) zero j h l e = absurd (omega arith)
  any_at (x ∷ xs) (suc k) zero h l e = rw e
  any_at (x ∷ xs) (suc k) (suc j) h l e = rw (any_at xs k j (omega arith) (omega arith) e, or-true)

  any_none : (xs : List ℕ) (k : ℕ) → k ≤ length xs → ((j : ℕ) → j < k → f (get_or xs j 0) ≡ false) → any_of f (take k xs) ≡ false
  any_none xs zero l h = refl
  any_none [] (suc k) l h = refl
  any_none (x ∷ xs) (suc k) l h = rw (h 0 (omega arith), any_none xs k (omega arith) (λ j o. h (suc j) (omega arith)))

  none_at : (xs : List ℕ) (k j : ℕ) → j < k → k ≤ length xs → any_of f (take k xs) ≡ false → f (get_or xs j 0) ≡ false
  none_at [] k j h l e = absurd (omega arith)
  none_at (x ∷ xs) zero j h l e = absurd (omega arith)
  none_at (x ∷ xs) (suc k) zero h l e = or_left (f x) (any_of f (take k xs)) e
  none_at (x ∷ xs) (suc k) (suc j) h l e = none_at xs k j (omega arith) (omega arith) (or_right (f x) (any_of f (take k xs)) e)

  -- r says whether the next element passes
  module _ (xs : List ℕ) (k j : ℕ) (h : j < k) (l : k ≤ length xs) (r : Bool) (q : r ≡ f (get_or xs j 0)) where
    pub any_found : r ≡ true → true ≡ any_of f (take k xs)
    any_found e = sym (any_at xs k j h l (sym q ∙ e))

    pub none_next : any_of f (take j xs) ≡ false → r ≡ false → any_of f (take (j + 1) xs) ≡ false
    none_next a e = rw (any_next xs j (omega arith), a) (sym q ∙ e)

-- what holds of each number below k and of k
pub each_next : (P : ℕ → Type 0) (k : ℕ) → ((j : ℕ) → j < k → P j) → P k → (j : ℕ) → j < k + 1 → P j
each_next P k h p j l = by (ltb j k) refl
  where
    by : (b : Bool) → ltb j k ≡ b → P j
    by true e = h j (ltb-true j k e)
    by false e = let q : j ≡ k = omega (arith, ltb-false j k e) in rw q p

-- the names of two entries
module _ (names : List ℕ) (v x w y : ℕ) (p : Known names v x) (q : Known names w y) where
  some_same : Some x ≡ Some y → x ≡ y
  some_same e = cc

  pub names_other : (x ≡ y → ⊥) → false ≡ same_word (spelled_at names v) (spelled_at names w)
  names_other n = sym (words_other (spelled_at names v) (spelled_at names w) p.named q.named (λ e. n (some_same (sym p.number ∙ e ∙ q.number))))

-- whether the names of two entries are the same, from the names as they are lent
pub spelled_same : (names : List ℕ) (v w : ℕ) (x y : List ℕ) (r : Bool) → x ≡ spelled_at names v → y ≡ spelled_at names w → r ≡ same_word x y → r ≡ same_as names w v
spelled_same names v w x y r p q e = e ∙ rw (p, q)

-- entry k and the earlier ones
module _ (names ws hashes : List ℕ) (k : ℕ) (l : k < length ws) (h : Hashed names ws hashes (suc k)) where
  -- where no earlier number is the same, no earlier name is
  apart_numbers : ((j : ℕ) → j < k → get_or hashes j 0 ≡ get_or hashes k 0 → ⊥) → met_before names ws k ≡ false
  apart_numbers n =
      any_none (same_as names (get_or ws k 0)) ws k (omega arith)
      (λ j o. sym (names_other names (get_or ws j 0) (get_or hashes j 0) (get_or ws k 0) (get_or hashes k 0) (h j (omega arith)) (h k (omega arith)) (n j o)))

  pub hash_none : k ≤ length hashes → any_of (λ x. eqb x (get_or hashes k 0)) (take k hashes) ≡ false → met_before names ws k ≡ false
  hash_none m e = apart_numbers (λ j o q. eqb-false (get_or hashes j 0) (get_or hashes k 0) (none_at (λ x. eqb x (get_or hashes k 0)) hashes k j o m e) q)

  -- where its mark is not set, it is the same as none
  pub mark_none : (met : List Bool) → ((j : ℕ) → j < k → get_or met (mark_of (get_or hashes j 0)) false ≡ true) → get_or met (mark_of (get_or hashes k 0)) false ≡ false → met_before names ws k ≡ false
  mark_none met m z = apart_numbers (λ j o q. absurd (true≢false (sym (m j o) ∙ ap (λ x. get_or met (mark_of x) false) q ∙ z)))

pub mark_below : (h : ℕ) → mark_of h < 4096
mark_below h = mod-lt _ (omega arith)

-- the marks of k names and one more
pub marked_next : (hashes : List ℕ) (met : List Bool) (k : ℕ) → length met ≡ 4096 → ((j : ℕ) → j < k → get_or met (mark_of (get_or hashes j 0)) false ≡ true)
    → (j : ℕ) → j < k + 1 → get_or (set met (mark_of (get_or hashes k 0)) true) (mark_of (get_or hashes j 0)) false ≡ true
marked_next hashes met k l m =
    each_next (λ j. get_or (set met (mark_of (get_or hashes k 0)) true) (mark_of (get_or hashes j 0)) false ≡ true) k (λ j o. by j o (eqb (mark_of (get_or hashes j 0)) (mark_of (get_or hashes k 0))) refl) new
  where
    new : get_or (set met (mark_of (get_or hashes k 0)) true) (mark_of (get_or hashes k 0)) false ≡ true
    new = get_or-set_same met (mark_of (get_or hashes k 0)) true false (omega (arith, mark_below (get_or hashes k 0)))

    by : (j : ℕ) → j < k → (b : Bool) → eqb (mark_of (get_or hashes j 0)) (mark_of (get_or hashes k 0)) ≡ b → get_or (set met (mark_of (get_or hashes k 0)) true) (mark_of (get_or hashes j 0)) false ≡ true
    by j o true e = ap (λ i. get_or (set met (mark_of (get_or hashes k 0)) true) i false) (eqb-true (mark_of (get_or hashes j 0)) (mark_of (get_or hashes k 0)) e) ∙ new
    by j o false e = get_or-set_other met (mark_of (get_or hashes k 0)) (mark_of (get_or hashes j 0)) true false (eqb-false (mark_of (get_or hashes j 0)) (mark_of (get_or hashes k 0)) e) ∙ m j o
