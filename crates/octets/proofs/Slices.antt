-- Laws of the part of a list from i to e, walked by an index.
use Prim.Native.Nat.{ℕ, zero, suc, ◌+◌, ◌-◌, ◌≤◌, ◌<◌}
use mathlib.Core.Path.{◌≡◌, refl, sym, ap, ◌∙◌}
use mathlib.Core.Bool.{Bool, true, false}
use mathlib.Core.List.{List, [], ◌∷◌, ◌++◌}
use native.Mathlib.Omega.{arith}
use native.Mathlib.Numerals.{add-one}
use lib.ListN.{length, take, drop, get_or, length-take, length-drop, drop_of_length-le, take-append-drop}
use lib.Seq.{take_all, slice, slice-cons, drop-drop, length-slice, take-nil, take-take, drop-append-le, length-take-le}
use Rattle.format.specs.Lists.{spanning, span}
use Rattle.format.specs.Octets.{same_octets}
use Rattle.format.proofs.Lists.{longer, drop_next, drop_none}
use Rattle.octets.specs.Octets.{front_end}

-- a part is its next element and the rest; past its end it is empty
pub next : (s : List ℕ) (i e : ℕ) → i < e → e ≤ length s → slice i e s ≡ get_or s i 0 ∷ slice (i + 1) e s
next s i e h l = rw (add-one) (slice-cons i e s 0 h l)

pub none : (s : List ℕ) (i e : ℕ) → e ≤ i → slice i e s ≡ []
none s i e h = let l : length (take e s) ≤ i = omega (arith, length-take e s) in drop_of_length-le (take e s) l

-- the rest of a part is a part
pub rest : (s : List ℕ) (i n e : ℕ) → drop n (slice i e s) ≡ slice (i + n) e s
rest s i n e = drop-drop n i (take e s)

-- the part that is lent to a call
pub take_drop : {A : Type 0} (n i : ℕ) (s : List A) → take n (drop i s) ≡ drop i (take (i + n) s)
take_drop n zero s = let q : 0 + n ≡ n = omega arith in rw q
take_drop n (suc i) [] = rw (take-nil n, take-nil (suc i + n))
take_drop n (suc i) (x ∷ s) = let q : suc i + n ≡ suc (i + n) = omega arith in rw q (take_drop n i s)

pub lent : (s : List ℕ) (i e : ℕ) → i ≤ e → take (e - i) (drop i s) ≡ slice i e s
lent s i e h = let q : i + (e - i) ≡ e = omega arith in take_drop (e - i) i s ∙ ap (λ k. drop i (take k s)) q

-- what is lent of a list from a place on is all that is left there
pub lent_rest : {A : Type 0} (s : List A) (i : ℕ) → take (length s - i) (drop i s) ≡ drop i s
lent_rest s i = let h : length (drop i s) ≤ length s - i = omega (arith, length-drop i s) in take_all (length s - i) (drop i s) h

-- a part of a part, and a part and the rest of the list
pub part : (s : List ℕ) (i k e : ℕ) → i + k ≤ e → take k (slice i e s) ≡ slice i (i + k) s
part s i k e h = take_drop k i (take e s) ∙ ap (drop i) (take-take (i + k) e s h)

pub rest_parts : (s : List ℕ) (i j : ℕ) → i ≤ j → j ≤ length s → drop i s ≡ slice i j s ++ drop j s
rest_parts s i j h k = ap (drop i) (sym (take-append-drop j s)) ∙ drop-append-le i (take j s) (drop j s) (omega (arith, length-take-le j s k))

-- the longest front that passes, and the rest
module _ (f : ℕ → Bool) where
  span_on : (x : ℕ) (xs : List ℕ) → f x ≡ true → length (span f (x ∷ xs)).front ≡ suc (length (span f xs).front)
  span_on x xs h = rw h

  span_off : (x : ℕ) (xs : List ℕ) → f x ≡ false → length (span f (x ∷ xs)).front ≡ 0
  span_off x xs h = rw h

  pub span_rest : (xs : List ℕ) → drop (length (span f xs).front) xs ≡ (span f xs).rest
  span_rest [] = refl
  span_rest (x ∷ xs) = by (f x) (span_rest xs)
    where
      by : (b : Bool) → drop (length (span f xs).front) xs ≡ (span f xs).rest → drop (length (spanning b x xs (span f xs)).front) (x ∷ xs) ≡ (spanning b x xs (span f xs)).rest
      by true ih = ih
      by false ih = refl

  pub span_front : (xs : List ℕ) → take (length (span f xs).front) xs ≡ (span f xs).front
  span_front [] = refl
  span_front (x ∷ xs) = by (f x) (span_front xs)
    where
      by : (b : Bool) → take (length (span f xs).front) xs ≡ (span f xs).front → take (length (spanning b x xs (span f xs)).front) (x ∷ xs) ≡ (spanning b x xs (span f xs)).front
      by true ih = ap (λ t. x ∷ t) ih
      by false ih = refl

  pub span_length : (xs : List ℕ) → length (span f xs).front ≤ length xs
  span_length [] = omega arith
  span_length (x ∷ xs) = by (f x) (span_length xs)
    where
      by : (b : Bool) → length (span f xs).front ≤ length xs → length (spanning b x xs (span f xs)).front ≤ suc (length xs)
      by true ih = omega arith
      by false ih = omega arith

  -- the octet that ends a front does not pass
  pub stopped : (xs : List ℕ) (y : ℕ) (ys : List ℕ) → (span f xs).rest ≡ y ∷ ys → f y ≡ false
  stopped [] y ys e = cc
  stopped (x ∷ xs) y ys e = by (f x) refl (stopped xs y ys) e
    where
      by : (b : Bool) → f x ≡ b → ((span f xs).rest ≡ y ∷ ys → f y ≡ false) → (spanning b x xs (span f xs)).rest ≡ y ∷ ys → f y ≡ false
      by true q ih r = ih r
      by false q ih r = let s : x ≡ y = cc in rw s at q

  -- the end of the front of a part
  pub front_on : (s : List ℕ) (i e : ℕ) → i < e → e ≤ length s → f (get_or s i 0) ≡ true → front_end f s (i + 1) e ≡ front_end f s i e
  front_on s i e h l t = rw (next s i e h l, span_on (get_or s i 0) (slice (i + 1) e s) t) (omega arith)

  pub front_off : (s : List ℕ) (i e : ℕ) → i < e → e ≤ length s → f (get_or s i 0) ≡ false → i ≡ front_end f s i e
  front_off s i e h l t = rw (next s i e h l, span_off (get_or s i 0) (slice (i + 1) e s) t) (omega arith)

  pub front_end_lem : (s : List ℕ) (i e : ℕ) → e ≤ i → i ≡ front_end f s i e
  front_end_lem s i e h = rw (none s i e h) (omega arith)

  -- that end lies in the part, and the rest follows it
  pub front_within : (s : List ℕ) (i e : ℕ) → i ≤ e → e ≤ length s → front_end f s i e ≤ e
  front_within s i e h l = omega (arith, span_length (slice i e s), length-slice i e s l)

  pub front_rest : (s : List ℕ) (i e : ℕ) → slice (front_end f s i e) e s ≡ (span f (slice i e s)).rest
  front_rest s i e = sym (rest s i (length (span f (slice i e s)).front) e) ∙ span_rest (slice i e s)

-- the front of what is left from a place on, if its next octet passes or not
module _ (f : ℕ → Bool) (xs : List ℕ) (i : ℕ) (h : i < length xs) where
  pub front_goes_on : f (get_or xs i 0) ≡ true → i + 1 + length (span f (drop (i + 1) xs)).front ≡ i + length (span f (drop i xs)).front
  front_goes_on t = rw (drop_next xs i h, span_on f (get_or xs i 0) (drop (i + 1) xs) t) (omega arith)

  pub front_stops : f (get_or xs i 0) ≡ false → i ≡ i + length (span f (drop i xs)).front
  front_stops t = rw (drop_next xs i h, span_off f (get_or xs i 0) (drop (i + 1) xs) t) (omega arith)

pub front_ends : (f : ℕ → Bool) (xs : List ℕ) (i : ℕ) → length xs ≤ i → i ≡ i + length (span f (drop i xs)).front
front_ends f xs i h = rw (drop_none xs i h) (omega arith)

-- two octets or more are not one alone
pub none_alone : (b : ℕ) (xs : List ℕ) → 2 ≤ length xs → false ≡ same_octets xs (b ∷ [])
none_alone b [] h = absurd (omega arith)
none_alone b (x ∷ []) h = absurd (omega arith)
none_alone b (x ∷ y ∷ xs) h = sym (longer b x y xs)
