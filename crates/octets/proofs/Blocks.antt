-- Parts of a list tested block by block: where the longest passing front ends, and whether all pass.
use Prim.Native.Nat.{ℕ, suc, ◌+◌, ◌-◌, ◌≤◌, ◌<◌}
use mathlib.Core.Path.{◌≡◌, refl, sym, ap, ◌∙◌}
use mathlib.Core.Bool.{Bool, true, false, ◌&&◌, and-false}
use mathlib.Core.List.{List, [], ◌∷◌, ◌++◌}
use native.Mathlib.Omega.{arith}
use lib.ListN.{length, take, drop, get_or}
use lib.Seq.{slice, length-slice, take-add, drop-append-le, length-take-le}
use lib.Dec.{leb, eqb, eqb-zero-suc, eqb-suc-suc}
use borrow.Author.Tests.{leb-true, le-leb, eqb-true, eqb-false, eq-eqb, ne_eqb}
use Rattle.format.specs.Lists.{all_of, spanning, span}
use Rattle.format.proofs.Lists.{and_left, and_right}
use Rattle.octets.specs.Octets.{front_end}
use Rattle.octets.proofs.Slices.{next, none, lent, part}

-- a part is its first part and then the second
pub slice_append : (t : List ℕ) (a i j : ℕ) → a ≤ i → i ≤ j → j ≤ length t → slice a j t ≡ slice a i t ++ slice i j t
slice_append t a i j h k l =
    let e : i + (j - i) ≡ j = omega arith in
    let n : a ≤ length (take i t) = omega (arith, length-take-le i t (omega arith)) in
    ap (λ m. drop a (take m t)) (sym e) ∙ ap (drop a) (take-add i (j - i) t) ∙ drop-append-le a (take i t) (take (j - i) (drop i t)) n ∙ ap (λ ys. slice a i t ++ ys) (lent t i j k)

module _ (f : ℕ → Bool) where
  all_append : (xs ys : List ℕ) → all_of f (xs ++ ys) ≡ all_of f xs && all_of f ys
  all_append [] ys = refl
  all_append (x ∷ xs) ys = by (f x) (all_append xs ys)
    where
      by : (b : Bool) → all_of f (xs ++ ys) ≡ all_of f xs && all_of f ys → b && all_of f (xs ++ ys) ≡ (b && all_of f xs) && all_of f ys
      by true e = e
      by false e = refl

  pub span_all : (xs ys : List ℕ) → all_of f xs ≡ true → length (span f (xs ++ ys)).front ≡ length xs + length (span f ys).front
  span_all [] ys h = omega arith
  span_all (x ∷ xs) ys h = rw (and_left (f x) (all_of f xs) h) (omega (arith, span_all xs ys (and_right (f x) (all_of f xs) h)))

  -- the front goes on after a block that passes
  pub all_front : (t : List ℕ) (i m e : ℕ) → i ≤ m → m ≤ e → e ≤ length t → all_of f (slice i m t) ≡ true → front_end f t m e ≡ front_end f t i e
  all_front t i m e h k l a =
      rw (slice_append t i m e h k l, span_all (slice i m t) (slice m e t) a) (omega (arith, length-slice i m t (omega arith)))

  -- one octet more is tested
  pub all_next : (t : List ℕ) (i e : ℕ) (b : Bool) → i < e → e ≤ length t → (b && f (get_or t i 0)) && all_of f (slice (i + 1) e t) ≡ b && all_of f (slice i e t)
  all_next t i e b h l = rw (next t i e h l) (by b)
    where
      by : (b : Bool) → (b && f (get_or t i 0)) && all_of f (slice (i + 1) e t) ≡ b && (f (get_or t i 0) && all_of f (slice (i + 1) e t))
      by true = refl
      by false = refl

  pub all_none : (t : List ℕ) (i e : ℕ) (b : Bool) → e ≤ i → b && all_of f (slice i e t) ≡ b
  all_none t i e b h = rw (none t i e h) (by b)
    where
      by : (b : Bool) → b && true ≡ b
      by true = refl
      by false = refl

  -- two parts, which may overlap
  all_parts : (t : List ℕ) (i m e : ℕ) → i ≤ m → m ≤ e → e ≤ length t → all_of f (slice i e t) ≡ all_of f (slice i m t) && all_of f (slice m e t)
  all_parts t i m e h k l = ap (all_of f) (slice_append t i m e h k l) ∙ all_append (slice i m t) (slice m e t)

  pub all_whole : (t : List ℕ) (i m e : ℕ) → i ≤ m → m ≤ e → e ≤ length t → all_of f (slice i m t) ≡ true → all_of f (slice m e t) ≡ true → all_of f (slice i e t) ≡ true
  all_whole t i m e h k l a b = rw (all_parts t i m e h k l, a, b)

  all_left : (t : List ℕ) (i m e : ℕ) → i ≤ m → m ≤ e → e ≤ length t → all_of f (slice i e t) ≡ true → all_of f (slice i m t) ≡ true
  all_left t i m e h k l a = and_left (all_of f (slice i m t)) (all_of f (slice m e t)) (sym (all_parts t i m e h k l) ∙ a)

  pub all_over : (t : List ℕ) (i j m e : ℕ) → i ≤ m → m ≤ j → j ≤ e → e ≤ length t → all_of f (slice i j t) ≡ true → all_of f (slice m e t) ≡ all_of f (slice i e t)
  all_over t i j m e h k o l a = rw (all_parts t i m e h (omega arith) l, all_left t i m j h k (omega arith) a)

  pub all_off : (t : List ℕ) (i m n e : ℕ) → i ≤ m → m ≤ n → n ≤ e → e ≤ length t → all_of f (slice m n t) ≡ false → false ≡ all_of f (slice i e t)
  all_off t i m n e h k o l a = rw (all_parts t i m e h (omega arith) l, all_parts t m n e k o l, a, and-false)

  pub all_length : (xs : List ℕ) → all_of f xs ≡ eqb (length (span f xs).front) (length xs)
  all_length [] = refl
  all_length (x ∷ xs) = by (f x) (all_length xs)
    where
      by : (b : Bool) → all_of f xs ≡ eqb (length (span f xs).front) (length xs)
          → b && all_of f xs ≡ eqb (length (spanning b x xs (span f xs)).front) (suc (length xs))
      by true ih = rw (eqb-suc-suc) ih
      by false ih = rw (eqb-zero-suc)

  -- all pass exactly if the front ends where the part does
  pub all_ended : (t : List ℕ) (i e : ℕ) → i ≤ e → e ≤ length t → eqb (front_end f t i e) e ≡ all_of f (slice i e t)
  all_ended t i e h l = by (eqb (front_end f t i e) e) refl
    where
      by : (b : Bool) → eqb (front_end f t i e) e ≡ b → b ≡ all_of f (slice i e t)
      by true q = sym (all_length (slice i e t) ∙ eq-eqb (length (span f (slice i e t)).front) (length (slice i e t)) (omega (arith, eqb-true (front_end f t i e) e q, length-slice i e t l)))
      by false q = sym (all_length (slice i e t) ∙ ne_eqb (length (span f (slice i e t)).front) (length (slice i e t)) (λ m. eqb-false (front_end f t i e) e q (omega (arith, length-slice i e t l))))

-- the first n octets of what is left from j on, tested at once
module _ (n : ℕ) (f : ℕ → Bool) (t : List ℕ) (j : ℕ) (h : j ≤ length t) where
  abbrev pub left : List ℕ
  left = take (length t - j) (drop j t)

  left_length : length left ≡ length t - j
  left_length = rw (lent t j (length t) h) (length-slice j (length t) t (omega arith))

  block : j + n ≤ length t → take n left ≡ slice j (j + n) t
  block l = rw (lent t j (length t) h) (part t j n (length t) l)

  pub block_there : leb n (length left) && all_of f (take n left) ≡ true → j + n ≤ length t
  block_there b = omega (arith, left_length, leb-true n (length left) (and_left (leb n (length left)) (all_of f (take n left)) b), h)

  pub block_passes : leb n (length left) && all_of f (take n left) ≡ true → all_of f (slice j (j + n) t) ≡ true
  block_passes b = ap (all_of f) (sym (block (block_there b))) ∙ and_right (leb n (length left)) (all_of f (take n left)) b

  pub block_broken : j + n ≤ length t → leb n (length left) && all_of f (take n left) ≡ false → all_of f (slice j (j + n) t) ≡ false
  block_broken l b = ap (all_of f) (sym (block l)) ∙ rest (rw (le-leb n (length left) (omega (arith, left_length))) at b)
    where
      rest : all_of f (take n left) ≡ false → all_of f (take n left) ≡ false
      rest r = r

-- a block from a place on that fits into what is left there and passes
module _ (n r : ℕ) (b : Bool) (h : leb n r && b ≡ true) where
  pub place_there : n ≤ r
  place_there = leb-true n r (and_left (leb n r) b h)

  pub place_passes : b ≡ true
  place_passes = and_right (leb n r) b h

pub place_broken : (n r : ℕ) (b : Bool) → n ≤ r → leb n r && b ≡ false → b ≡ false
place_broken n r b l h = rw (le-leb n r l) at h

-- a part that ends the list
pub last_part : (t : List ℕ) (i : ℕ) → i ≤ length t → take (length t - i) (drop i t) ≡ slice i (length t) t
last_part t i h = lent t i (length t) h
