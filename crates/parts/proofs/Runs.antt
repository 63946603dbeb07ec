-- Runs of parts that rise, and how two of them are merged.
use Prim.Native.Nat.{ℕ, ◌+◌, ◌-◌, ◌≤◌, ◌<◌}
use mathlib.Core.Path.{◌≡◌, refl, sym, ap, ◌∙◌}
use mathlib.Core.Bool.{Bool, true, false, ◌||◌}
use mathlib.Core.List.Permᴰ
use mathlib.Core.List.{List, [], ◌∷◌, ◌++◌, map, Permᴰ}
use native.Mathlib.Omega.{arith}
use native.Mathlib.Numerals.{add-one}
use lib.ListN.{length, get_or, take, drop, set, length-drop}
use lib.Seq.{append_snoc, take-suc-set, take_all}
use Rattle.format.specs.Lists.{any_of, twice}
use Rattle.format.proofs.Lists.{drop_next}
use Rattle.stanza_words.specs.Qualifiers.{same_by}
use Rattle.std.proofs.Common.{Ordering, Less, Equal, Greater}
use Rattle.std.specs.Ordering.{is_eq, ordering_reverse}
use Rattle.parts.specs.Parts.{part_of, order_by, head_order, Rising}
use Rattle.parts.proofs.Orders.{order_total, same_equal, same_sym}

or_swap : (p q r : Bool) → p || (q || r) ≡ q || (p || r)
or_swap true true r = refl
or_swap true false r = refl
or_swap false q r = refl

or_cross : (p q r t : Bool) → (p || q) || (r || t) ≡ (p || r) || (q || t)
or_cross true q r t = refl
or_cross false true true t = refl
or_cross false true false t = refl
or_cross false false true t = refl
or_cross false false false t = refl

pub or_true : (p : Bool) → p || true ≡ true
or_true true = refl
or_true false = refl

module _ (g : Bool) (s : List ℕ) where
  -- whether two parts are the same does not hang on their order
  any_perm : (f : List ℕ → Bool) {xs ys : List ℕ} → Permᴰ xs ys → any_of f (map (part_of s) xs) ≡ any_of f (map (part_of s) ys)
  any_perm f Permᴰ.nil = refl
  any_perm f (Permᴰ.cons e d) = rw (e, any_perm f d)
  any_perm f (Permᴰ.swap {a = a} {b = b} {l = l} e₁ e₂) = rw (← e₁, ← e₂) (or_swap (f (part_of s a)) (f (part_of s b)) (any_of f (map (part_of s) l)))
  any_perm f (Permᴰ.trans d e) = any_perm f d ∙ any_perm f e

  twice_swap : (a b : ℕ) (l : List ℕ) → twice (same_by g) (map (part_of s) (a ∷ b ∷ l)) ≡ twice (same_by g) (map (part_of s) (b ∷ a ∷ l))
  twice_swap a b l =
      rw (same_sym g (part_of s b) (part_of s a))
      (or_cross (same_by g (part_of s a) (part_of s b)) (any_of (same_by g (part_of s a)) (map (part_of s) l)) (any_of (same_by g (part_of s b)) (map (part_of s) l)) (twice (same_by g) (map (part_of s) l)))

  pub twice_perm : {xs ys : List ℕ} → Permᴰ xs ys → twice (same_by g) (map (part_of s) xs) ≡ twice (same_by g) (map (part_of s) ys)
  twice_perm Permᴰ.nil = refl
  twice_perm (Permᴰ.cons {b = b} e d) = rw (e, any_perm (same_by g (part_of s b)) d, twice_perm d)
  twice_perm (Permᴰ.swap {a = a} {b = b} {a' = a'} {l = l} e₁ e₂) =
      twice_swap a b l
      ∙ ap (λ (x : ℕ). twice (same_by g) (map (part_of s) (x ∷ a ∷ l))) e₂
      ∙ ap (λ (x : ℕ). twice (same_by g) (map (part_of s) (a' ∷ x ∷ l))) e₁
  twice_perm (Permᴰ.trans d e) = twice_perm d ∙ twice_perm e

  -- a part and a later one that is the same
  any_there : (f : List ℕ → Bool) (xs ys : List ℕ) (b : ℕ) → f (part_of s b) ≡ true → any_of f (map (part_of s) (xs ++ b ∷ ys)) ≡ true
  any_there f [] ys b h = rw h
  any_there f (x ∷ xs) ys b h = rw (any_there f xs ys b h) (or_true (f (part_of s x)))

  twice_there : (os xs ys : List ℕ) (a b : ℕ) → same_by g (part_of s a) (part_of s b) ≡ true → twice (same_by g) (map (part_of s) (os ++ (a ∷ xs ++ b ∷ ys))) ≡ true
  twice_there [] xs ys a b h = rw (any_there (same_by g (part_of s a)) xs ys b h)
  twice_there (o ∷ os) xs ys a b h = rw (twice_there os xs ys a b h) (or_true (any_of (same_by g (part_of s o)) (map (part_of s) (os ++ (a ∷ xs ++ b ∷ ys)))))

  -- parts that rise differ from one another
  other_than : (x y : ℕ) → order_by g (part_of s x) (part_of s y) ≡ Less → same_by g (part_of s x) (part_of s y) ≡ false
  other_than x y h = same_equal g (part_of s x) (part_of s y) ∙ ap is_eq h

  first_other : (x : ℕ) (xs : List ℕ) → Rising g s (x ∷ xs) → any_of (same_by g (part_of s x)) (map (part_of s) xs) ≡ false
  first_other x [] h = refl
  first_other x (y ∷ []) h = rw (other_than x y h.0)
  first_other x (y ∷ z ∷ zs) h =
      rw (other_than x y h.0)
      (first_other x (z ∷ zs) ((order_total g).trans (part_of s x) (part_of s y) (part_of s z) h.0 h.1.0, h.1.1))

  pub rising_differ : (xs : List ℕ) → Rising g s xs → twice (same_by g) (map (part_of s) xs) ≡ false
  rising_differ [] h = refl
  rising_differ (x ∷ []) h = refl
  rising_differ (x ∷ y ∷ xs) h = rw (first_other x (y ∷ xs) h) (rising_differ (y ∷ xs) h.1)

  -- a run that goes on with x, before another that goes on with y
  rising_before : (os xs ys : List ℕ) (x y : ℕ) → Rising g s (os ++ x ∷ xs) → Rising g s (os ++ y ∷ ys) → order_by g (part_of s x) (part_of s y) ≡ Less → Rising g s (os ++ x ∷ y ∷ ys)
  rising_before [] xs ys x y h k l = (l, k)
  rising_before (o ∷ []) xs ys x y h k l = (h.0, (l, k.1))
  rising_before (o ∷ p ∷ os) xs ys x y h k l = (h.0, rising_before (p ∷ os) xs ys x y h.1 k.1 l)

  rising_last : (os xs : List ℕ) (x : ℕ) → Rising g s (os ++ x ∷ xs) → Rising g s (os ++ x ∷ [])
  rising_last [] xs x h = tt
  rising_last (o ∷ []) xs x h = (h.0, tt)
  rising_last (o ∷ p ∷ os) xs x h = (h.0, rising_last (p ∷ os) xs x h.1)

  -- the runs xs and ys, of which the parts os are merged; x and y are what is left of them
  pub record Merging (xs ys os x y : List ℕ) : Type 0 where
    pub parts : Permᴰ (xs ++ ys) (os ++ (x ++ y))
    pub first : Rising g s (os ++ x)
    pub second : Rising g s (os ++ y)

  module _ (xs ys : List ℕ) where
    pub merge_start : Rising g s xs → Rising g s ys → Merging xs ys [] xs ys
    merge_start h k = record { parts = Permᴰ.refl (xs ++ ys); first = h; second = k }

    from_first : (os x y : List ℕ) (a : ℕ) → Merging xs ys os (a ∷ x) y → head_order g s (a ∷ x) y ≡ Less → Merging xs ys (os ++ a ∷ []) x y
    from_first os x [] a m l =
        record { parts = rw (append_snoc os a (x ++ [])) m.parts; first = rw (append_snoc os a x) m.first; second = rw (append_snoc os a []) (rising_last os x a m.first) }
    from_first os x (b ∷ y) a m l =
        record { parts = rw (append_snoc os a (x ++ b ∷ y)) m.parts; first = rw (append_snoc os a x) m.first; second = rw (append_snoc os a (b ∷ y)) (rising_before os x y a b m.first m.second l) }

    moved : (os x y : List ℕ) (b : ℕ) → Permᴰ (xs ++ ys) (os ++ (x ++ b ∷ y)) → Permᴰ (xs ++ ys) ((os ++ b ∷ []) ++ (x ++ y))
    moved os x y b p = rw (append_snoc os b (x ++ y)) (Permᴰ.trans p (Permᴰ.append_left os (Permᴰ.middle b x y)))

    from_second : (os x y : List ℕ) (b : ℕ) → Merging xs ys os x (b ∷ y) → head_order g s x (b ∷ y) ≡ Greater → Merging xs ys (os ++ b ∷ []) x y
    from_second os [] y b m l =
        record { parts = moved os [] y b m.parts; first = rw (append_snoc os b []) (rising_last os y b m.second); second = rw (append_snoc os b y) m.second }
    from_second os (a ∷ x) y b m l =
        record {
          parts = moved os (a ∷ x) y b m.parts;
          first = rw (append_snoc os b (a ∷ x)) (rising_before os y x b a m.second m.first ((order_total g).antisymm (part_of s b) (part_of s a) ∙ ap ordering_reverse l));
          second = rw (append_snoc os b y) m.second;
        }

    -- the parts that come first in both are the same
    heads_same : (os x y : List ℕ) → Merging xs ys os x y → head_order g s x y ≡ Equal → twice (same_by g) (map (part_of s) (xs ++ ys)) ≡ true
    heads_same os [] y m l = let z : ◌≡◌ {A = ℕ} 0 1 = cc in absurd (omega arith)
    heads_same os (a ∷ x) [] m l = let z : ◌≡◌ {A = ℕ} 0 1 = cc in absurd (omega arith)
    heads_same os (a ∷ x) (b ∷ y) m l = twice_perm m.parts ∙ twice_there os x y a b (same_equal g (part_of s a) (part_of s b) ∙ ap is_eq l)

  some_first : (x y : List ℕ) → head_order g s x y ≡ Less → 1 ≤ length x
  some_first [] y h = let z : ◌≡◌ {A = ℕ} 0 1 = cc in absurd (omega arith)
  some_first (a ∷ x) y h = omega arith

  some_second : (x y : List ℕ) → head_order g s x y ≡ Greater → 1 ≤ length x + length y → 1 ≤ length y
  some_second [] y h l = omega arith
  some_second (a ∷ x) [] h l = let z : ◌≡◌ {A = ℕ} 0 1 = cc in absurd (omega arith)
  some_second (a ∷ x) (b ∷ y) h l = omega arith

  -- one turn of the loop: the next part is stored after those that are merged
  module _ (xs ys out : List ℕ) (i k : ℕ) (h : i ≤ k) (a : i ≤ length xs) (b : k - i ≤ length ys) (l : length xs + length ys ≡ length out) (t : k < length out)
      (r : Ordering) (e : r ≡ head_order g s (take (length xs - i) (drop i xs)) (take (length ys - (k - i)) (drop (k - i) ys))) where
    d : r ≡ head_order g s (drop i xs) (drop (k - i) ys)
    d =
        let p = take_all (length xs - i) (drop i xs) (omega (arith, length-drop i xs)) in
        let q = take_all (length ys - (k - i)) (drop (k - i) ys) (omega (arith, length-drop (k - i) ys)) in
        rw (p, q) at e

    pub first_there : r ≡ Less → i < length xs
    first_there o = omega (arith, some_first (drop i xs) (drop (k - i) ys) (sym d ∙ o), length-drop i xs)

    pub second_there : r ≡ Greater → k - i < length ys
    second_there o = omega (arith, some_second (drop i xs) (drop (k - i) ys) (sym d ∙ o) (omega (arith, length-drop i xs, length-drop (k - i) ys)), length-drop (k - i) ys)

    stored : (v : ℕ) → take (k + 1) (set out k v) ≡ take k out ++ v ∷ []
    stored v = rw (add-one) (take-suc-set out k v t)

    module _ (m : Merging xs ys (take k out) (drop i xs) (drop (k - i) ys)) where
      pub first_merged : r ≡ Less → Merging xs ys (take (k + 1) (set out k (get_or xs i 0))) (drop (i + 1) xs) (drop (k + 1 - (i + 1)) ys)
      first_merged o =
          let q : drop i xs ≡ get_or xs i 0 ∷ drop (i + 1) xs = drop_next xs i (first_there o) in
          let n : k + 1 - (i + 1) ≡ k - i = omega arith in
          rw (n, stored (get_or xs i 0)) (from_first xs ys (take k out) (drop (i + 1) xs) (drop (k - i) ys) (get_or xs i 0) (rw q at m) (rw q at (sym d ∙ o)))

      pub same_met : r ≡ Equal → twice (same_by g) (map (part_of s) (xs ++ ys)) ≡ true
      same_met o = heads_same xs ys (take k out) (drop i xs) (drop (k - i) ys) m (sym d ∙ o)

      pub second_merged : r ≡ Greater → Merging xs ys (take (k + 1) (set out k (get_or ys (k - i) 0))) (drop i xs) (drop (k + 1 - i) ys)
      second_merged o =
          let q : drop (k - i) ys ≡ get_or ys (k - i) 0 ∷ drop (k - i + 1) ys = drop_next ys (k - i) (second_there o) in
          let n : k + 1 - i ≡ k - i + 1 = omega (arith, h) in
          rw (n, stored (get_or ys (k - i) 0)) (from_second xs ys (take k out) (drop i xs) (drop (k - i + 1) ys) (get_or ys (k - i) 0) (rw q at m) (rw q at (sym d ∙ o)))
