-- Parts that are sorted half by half.
use Prim.Native.Nat.{ℕ, ◌<◌}
use mathlib.Core.Path.{◌≡◌, refl, sym, ◌∙◌}
use mathlib.Core.Bool.{Bool, true, false, ◌||◌, true≢false}
use mathlib.Core.List.{List, [], ◌∷◌, ◌++◌, map, map-append, Permᴰ}
use native.Mathlib.Omega.{arith}
use lib.ListN.{length}
use Rattle.format.specs.Lists.{any_of, twice}
use Rattle.stanza_words.specs.Qualifiers.{same_by}
use Rattle.parts.specs.Parts.{part_of, Rising, Sorted}
use Rattle.parts.proofs.Runs.{or_true, twice_perm, rising_differ}

-- two elements of a list are the same, so two of a longer list are
module _ {A : Type 0} (same : A → A → Bool) where
  any_first : (f : A → Bool) (xs ys : List A) → any_of f xs ≡ true → any_of f (xs ++ ys) ≡ true
  any_first f [] ys h = absurd (true≢false (sym h))
  any_first f (x ∷ xs) ys h = by (f x) (any_of f xs) (any_of f (xs ++ ys)) h (any_first f xs ys)
    where
      by : (p q r : Bool) → p || q ≡ true → (q ≡ true → r ≡ true) → p || r ≡ true
      by true q r h n = refl
      by false q r h n = n h

  twice_first : (xs ys : List A) → twice same xs ≡ true → twice same (xs ++ ys) ≡ true
  twice_first [] ys h = absurd (true≢false (sym h))
  twice_first (x ∷ xs) ys h = by (any_of (same x) xs) (twice same xs) (any_of (same x) (xs ++ ys)) (twice same (xs ++ ys)) h (any_first (same x) xs ys) (twice_first xs ys)
    where
      by : (p q r t : Bool) → p || q ≡ true → (p ≡ true → r ≡ true) → (q ≡ true → t ≡ true) → r || t ≡ true
      by true q r t h m n = rw (m refl)
      by false q r t h m n = rw (n h) (or_true r)

  twice_second : (xs ys : List A) → twice same ys ≡ true → twice same (xs ++ ys) ≡ true
  twice_second [] ys h = h
  twice_second (x ∷ xs) ys h = rw (twice_second xs ys h) (or_true (any_of (same x) (xs ++ ys)))

module _ (g : Bool) (s : List ℕ) where
  pub rising_few : (xs : List ℕ) → length xs < 2 → Rising g s xs
  rising_few [] h = tt
  rising_few (x ∷ []) h = tt
  rising_few (x ∷ y ∷ xs) h = absurd (omega arith)

  -- whether two parts are the same, from what sorting leaves
  pub sorted_twice : (xs ys : List ℕ) (r : Bool) → Sorted g s xs ys r → r ≡ twice (same_by g) (map (part_of s) xs)
  sorted_twice xs ys true h = sym h
  sorted_twice xs ys false h = sym (twice_perm g s h.0 ∙ rising_differ g s ys h.1)

  twice_half : (a xs ys : List ℕ) → a ≡ xs ++ ys → twice (same_by g) (map (part_of s) xs) ≡ true → twice (same_by g) (map (part_of s) a) ≡ true
  twice_half a xs ys e h = rw (e, map-append (part_of s) xs ys) (twice_first (same_by g) (map (part_of s) xs) (map (part_of s) ys) h)

  twice_rest : (a xs ys : List ℕ) → a ≡ xs ++ ys → twice (same_by g) (map (part_of s) ys) ≡ true → twice (same_by g) (map (part_of s) a) ≡ true
  twice_rest a xs ys e h = rw (e, map-append (part_of s) xs ys) (twice_second (same_by g) (map (part_of s) xs) (map (part_of s) ys) h)

  same_parts : (xs ys us vs out : List ℕ) (r : Bool) → Permᴰ xs us → Permᴰ ys vs → Sorted g s (us ++ vs) out r → Sorted g s (xs ++ ys) out r
  same_parts xs ys us vs out true p q h = twice_perm g s (mathlib.Core.List.Permᴰ.trans (mathlib.Core.List.Permᴰ.append_right ys p) (mathlib.Core.List.Permᴰ.append_left us q)) ∙ h
  same_parts xs ys us vs out false p q h = (mathlib.Core.List.Permᴰ.trans (mathlib.Core.List.Permᴰ.trans (mathlib.Core.List.Permᴰ.append_right ys p) (mathlib.Core.List.Permᴰ.append_left us q)) h.0, h.1)

-- the parts a in two halves, xs and ys
module _ (g : Bool) (s a xs ys : List ℕ) (e : xs ++ ys ≡ a) where
  -- a half has two parts that are the same
  pub first_twice : (z : List ℕ) (r : Bool) → Sorted g s xs z r → r ≡ true → twice (same_by g) (map (part_of s) a) ≡ true
  first_twice z r d t = twice_half g s a xs ys (sym e) (rw t at d)

  pub second_twice : (z : List ℕ) (r : Bool) → Sorted g s ys z r → r ≡ true → twice (same_by g) (map (part_of s) a) ≡ true
  second_twice z r d t = twice_rest g s a xs ys (sym e) (rw t at d)

  -- the sorted halves, z and y, are merged
  pub halves_sorted : (z y : List ℕ) (q r : Bool) → Sorted g s xs z q → q ≡ false → Sorted g s ys y r → r ≡ false → (t : Bool) (out : List ℕ) → Sorted g s (z ++ y) out t → Sorted g s a out t
  halves_sorted z y q r d f j o t out l = rw (← e) (same_parts g s xs ys z y out t (rw f at d).0 (rw o at j).0 l)
