-- Laws of a picture: one more type and its bit, and the blocks.
use Prim.Native.Nat.{ℕ, zero, suc, ◌+◌, ◌-◌, ◌*◌, ◌/◌, ◌%◌, ◌^◌, ◌≤◌, ◌<◌}
use mathlib.Core.Path.{◌≡◌, refl, sym, ap, ◌∙◌}
use mathlib.Core.Bool.{Bool, true, false, cond, ◌||◌}
use Rattle.format.specs.Lists.{all_of}
use Rattle.format.proofs.Lists.{and_left, and_right}
use mathlib.Core.List.{List, [], ◌∷◌, ◌++◌}
use native.Mathlib.Omega.{arith}
use native.Mathlib.Numerals.{add-one}
use lib.Bits.{bit_or}
use lib.ListN.{length, take, get_or, set, replicate, length-take, get_or-replicate}
use lib.Seq.{get_or-set_same, get_or-set_other, take-suc, length-take-le}
use lib.Dec.{eqb}
use borrow.Author.Tests.{eq-eqb, ne_eqb, eqb-true, eqb-false}
use Rattle.format.specs.Octets.{Below, among}
use Rattle.format.specs.Digits.{digits, number}
use Rattle.format.specs.Bitmap.{bits_of, octets_from, window_octets, before_zeros, without_last_zeros, block_of, blocks_from}
use Rattle.format.proofs.Finite.{all_below, at_each}
use Rattle.format.proofs.Digits.{digits_number, number_bound}
use Rattle.format.proofs.Bitmap.{window_length}
use Rattle.bitmap_picture.specs.Windows.{zero_octet, Holds}

-- an octet with one more bit
with_bit : (x k : ℕ) → x < 256 → k < 8 → bit_or x (128 / 2 ^ k) ≡ number 2 (set (digits 2 8 x) k 1)
with_bit x k h l = eqb-true _ _ (at_each (λ k. same x k) 8 (at_each (λ x. all_below (λ k. same x k) 8) 256 refl x h) k l)
  where
    same : ℕ → ℕ → Bool
    same x k = eqb (bit_or x (128 / 2 ^ k)) (number 2 (set (digits 2 8 x) k 1))

bit_in : (bs : List ℕ) (k : ℕ) → Below 2 bs → length bs ≡ 8 → k < 8 → bit_or (number 2 bs) (128 / 2 ^ k) ≡ number 2 (set bs k 1)
bit_in bs k b e l =
    let h : number 2 bs < 2 ^ 8 = rw e at (number_bound 2 bs b) in
    let d : digits 2 8 (number 2 bs) ≡ bs = rw e at (digits_number 2 bs b) in
    with_bit (number 2 bs) k h l ∙ ap (λ (cs : List ℕ). number 2 (set cs k 1)) d

-- the bits of types
bits_below : (ts : List ℕ) (n c : ℕ) → Below 2 (bits_of ts n c)
bits_below ts n zero = tt
bits_below ts n (suc c) = (by (among n ts), bits_below ts (suc n) c)
  where
    by : (b : Bool) → cond b 1 0 < 2
    by true = omega arith
    by false = omega arith

bits_length : (ts : List ℕ) (n c : ℕ) → length (bits_of ts n c) ≡ c
bits_length ts n zero = refl
bits_length ts n (suc c) = ap suc (bits_length ts (suc n) c)

-- two lists hold the same types from n to below n + c
abbrev Same : List ℕ → List ℕ → ℕ → ℕ → Type 0
Same ts us n c = (i : ℕ) → n ≤ i → i < n + c → among i us ≡ among i ts

bits_same : (ts us : List ℕ) (n c : ℕ) → Same ts us n c → bits_of us n c ≡ bits_of ts n c
bits_same ts us n zero h = refl
bits_same ts us n (suc c) h = rw (h n (omega arith) (omega arith), bits_same ts us (suc n) c (λ i l m. h i (omega arith) (omega arith)))

octets_both : {bs cs xs ys : List ℕ} → bs ≡ cs → xs ≡ ys → number 2 bs ∷ xs ≡ number 2 cs ∷ ys
octets_both p q = rw (p, q)

octets_same : (ts us : List ℕ) (n c : ℕ) → Same ts us n (8 * c) → octets_from us n c ≡ octets_from ts n c
unfolding octets_from
octets_same ts us n zero h = refl
octets_same ts us n (suc c) h =
    octets_both (bits_same ts us n 8 (λ i l m. h i l (omega arith))) (octets_same ts us (n + 8) c (λ i l m. h i (omega arith) (omega arith)))

-- one more type
among_more : (ts : List ℕ) (v i : ℕ) → among i (ts ++ v ∷ []) ≡ eqb i v || among i ts
among_more [] v i = refl
among_more (t ∷ ts) v i = rw (among_more ts v i) (by (eqb i t) (eqb i v))
  where
    by : (a b : Bool) → a || (b || among i ts) ≡ b || (a || among i ts)
    by true true = refl
    by true false = refl
    by false b = refl

module _ (ts : List ℕ) (v : ℕ) where
  abbrev more : List ℕ
  more = ts ++ v ∷ []

  others : (i : ℕ) → (i ≡ v → ⊥) → among i more ≡ among i ts
  others i h = among_more ts v i ∙ rw (ne_eqb i v h)

  bits_more : (n k c : ℕ) → n + k ≡ v → k < c → bits_of more n c ≡ set (bits_of ts n c) k 1
  bits_more n zero (suc c) e h =
      let q : n ≡ v = omega arith in
      rw (among_more ts v n, eq-eqb n v q, bits_same ts more (suc n) c (λ i l m. others i (λ r. omega arith)))
  bits_more n (suc k) (suc c) e h = rw (others n (λ r. omega arith), bits_more (suc n) k c (omega arith) (omega arith))
  bits_more n k zero e h = absurd (omega arith)

  octets_more : (n b k c : ℕ) → n + 8 * b + k ≡ v → k < 8 → b < c → set (octets_from ts n c) b (bit_or (get_or (octets_from ts n c) b 0) (128 / 2 ^ k)) ≡ octets_from more n c
  unfolding octets_from
  octets_more n b k zero e h l = absurd (omega arith)
  octets_more n zero k (suc c) e h l =
      ap (λ (x : ℕ). x ∷ octets_from ts (n + 8) c) (bit_in (bits_of ts n 8) k (bits_below ts n 8) (bits_length ts n 8) h)
      ∙ sym (octets_both (bits_more n k 8 (omega arith) h) (octets_same ts more (n + 8) c (λ i m o. others i (λ r. omega arith))))
  octets_more n (suc b) k (suc c) e h l =
      octets_both (sym (bits_same ts more n 8 (λ i m o. others i (λ r. omega arith)))) (octets_more (n + 8) b k c (omega arith) h (omega arith))

-- a window that has octets lies in the picture
row_there : (m : List (List ℕ)) (w : ℕ) → 0 < length (get_or m w []) → w < length m
row_there [] w h = absurd (omega arith)
row_there (r ∷ m) zero h = omega arith
row_there (r ∷ m) (suc w) h = omega (arith, row_there m w h)

pub marked : (m : List (List ℕ)) (top r v : ℕ) (ts : List ℕ) → v < 65536 → top ≤ r → v / 256 < r → Holds m top ts
    → Holds (set m (v / 256) (set (get_or m (v / 256) []) (v % 256 / 8) (bit_or (get_or (get_or m (v / 256) []) (v % 256 / 8) 0) (128 / 2 ^ (v % 8))))) r (ts ++ v ∷ [])
marked m top r v ts h k l p = record { windows = λ w b. by w b (eqb w (v / 256)) refl; above = λ t b. among_more ts v t ∙ rw (ne_eqb t v (λ q. omega arith), p.above t (omega arith)) }
  where
    row : List ℕ
    row = set (get_or m (v / 256) []) (v % 256 / 8) (bit_or (get_or (get_or m (v / 256) []) (v % 256 / 8) 0) (128 / 2 ^ (v % 8)))

    here : v / 256 < 256 → row ≡ window_octets (ts ++ v ∷ []) (v / 256)
    here b = rw (p.windows (v / 256) b) (octets_more ts v (v / 256 * 256) (v % 256 / 8) (v % 8) 32 (omega arith) (omega arith) (omega arith))

    there : v / 256 < 256 → v / 256 < length m
    there b = row_there m (v / 256) (rw (p.windows (v / 256) b) (omega (arith, window_length ts (v / 256 * 256) 32)))

    by : (w : ℕ) → w < 256 → (b : Bool) → eqb w (v / 256) ≡ b → get_or (set m (v / 256) row) w [] ≡ window_octets (ts ++ v ∷ []) w
    by w b true e = let q = eqb-true w (v / 256) e in let c : v / 256 < 256 = omega arith in rw q (get_or-set_same m (v / 256) row [] (there c) ∙ here c)
    by w b false e =
        let q = eqb-false w (v / 256) e in
        get_or-set_other m (v / 256) w row [] q ∙ p.windows w b ∙ sym (octets_same ts (ts ++ v ∷ []) (w * 256) 32 (λ i f g. others ts v i (λ o. q (omega arith))))

-- a picture of no types
none_octets : (n c : ℕ) → octets_from [] n c ≡ replicate c 0
unfolding octets_from
none_octets n zero = refl
none_octets n (suc c) = ap (λ (l : List ℕ). 0 ∷ l) (none_octets (n + 8) c)

pub blank : Holds (replicate 256 (replicate 32 0)) 0 []
blank = record { windows = λ w h. get_or-replicate 256 w (replicate 32 0) [] h ∙ sym (none_octets (w * 256) 32); above = λ t h. refl }

-- the last octet of a window
last_zero : (xs : List ℕ) → without_last_zeros (xs ++ 0 ∷ []) ≡ without_last_zeros xs
last_zero [] = refl
last_zero (x ∷ xs) = ap (before_zeros x) (last_zero xs)

last_some : (xs : List ℕ) (y : ℕ) → (y ≡ 0 → ⊥) → without_last_zeros (xs ++ y ∷ []) ≡ xs ++ y ∷ []
last_some [] zero h = absurd (h refl)
last_some [] (suc y) h = refl
last_some (x ∷ []) y h = ap (before_zeros x) (last_some [] y h)
last_some (x ∷ z ∷ xs) y h = ap (before_zeros x) (last_some (z ∷ xs) y h)

module _ (r : List ℕ) where
  pub zero_off : (n : ℕ) → 0 < n → n ≤ length r → get_or r (n - 1) 0 ≡ 0 → without_last_zeros (take (n - 1) r) ≡ without_last_zeros (take n r)
  zero_off zero h l e = absurd (omega arith)
  zero_off (suc n) h l e =
      let q : suc n - 1 ≡ n = omega arith in
      let z : get_or r n 0 ≡ 0 = rw q at e in
      rw (q, take-suc r n 0 (omega arith), z) (sym (last_zero (take n r)))

  pub kept : (n : ℕ) → 0 < n → n ≤ length r → (get_or r (n - 1) 0 ≡ 0 → ⊥) → n - 1 + 1 ≡ length (without_last_zeros (take n r))
  kept zero h l e = absurd (omega arith)
  kept (suc n) h l e =
      let q : suc n - 1 ≡ n = omega arith in
      let z : get_or r n 0 ≡ 0 → ⊥ = rw q at e in
      let q₁ : suc n - 1 + 1 ≡ suc n = omega arith in
      let t : take (suc n) r ≡ take n r ++ get_or r n 0 ∷ [] = take-suc r n 0 (omega arith) in
      q₁ ∙ sym (ap length (ap without_last_zeros t ∙ last_some (take n r) (get_or r n 0) z ∙ sym t) ∙ length-take-le (suc n) r l)

-- a window of zeros has no octets without its last zeros
all_zeros : (r : List ℕ) → all_of zero_octet r ≡ true → without_last_zeros r ≡ []
all_zeros [] h = refl
all_zeros (x ∷ xs) h =
    let z : x ≡ 0 = eqb-true x 0 (and_left (zero_octet x) (all_of zero_octet xs) h) in
    rw (all_zeros xs (and_right (zero_octet x) (all_of zero_octet xs) h), z)

pub empty_block : (w : ℕ) (r : List ℕ) → all_of zero_octet r ≡ true → [] ≡ block_of w (without_last_zeros r)
empty_block w r h = rw (all_zeros r h)

-- a window without its last zeros is a front of it
front : (xs : List ℕ) → take (length (without_last_zeros xs)) xs ≡ without_last_zeros xs
front [] = refl
front (x ∷ xs) = by x (without_last_zeros xs) (front xs)
  where
    by : (x : ℕ) (l : List ℕ) → take (length l) xs ≡ l → take (length (before_zeros x l)) (x ∷ xs) ≡ before_zeros x l
    by zero [] e = refl
    by (suc x) [] e = refl
    by x (y ∷ l) e = ap (λ (k : List ℕ). x ∷ k) e

pub front_length : (xs : List ℕ) → length (without_last_zeros xs) ≤ length xs
front_length xs = omega (arith, length-take (length (without_last_zeros xs)) xs, ap length (front xs))

pub block_length : (w : ℕ) (xs : List ℕ) → length (block_of w (without_last_zeros xs)) ≤ 2 + length xs
block_length w xs = by (without_last_zeros xs) (front_length xs)
  where
    by : (l : List ℕ) → length l ≤ length xs → length (block_of w l) ≤ 2 + length xs
    by [] h = omega arith
    by (x ∷ l) h = omega arith

-- a window with an octet that is not zero has a block
not_zeros : (r : List ℕ) → all_of zero_octet r ≡ false → (without_last_zeros r ≡ [] → ⊥)
not_zeros [] h e = cc
not_zeros (zero ∷ xs) h e = by (without_last_zeros xs) (not_zeros xs h) e
  where
    by : (l : List ℕ) → (l ≡ [] → ⊥) → before_zeros 0 l ≡ [] → ⊥
    by [] q f = q refl
    by (y ∷ l) q f = cc
not_zeros (suc x ∷ xs) h e = by (without_last_zeros xs) e
  where
    by : (l : List ℕ) → before_zeros (suc x) l ≡ [] → ⊥
    by [] f = cc
    by (y ∷ l) f = cc

pub some_block : (w c : ℕ) (r : List ℕ) → c ≡ length (without_last_zeros r) → all_of zero_octet r ≡ false → (w ∷ []) ++ ((c ∷ []) ++ take c r) ≡ block_of w (without_last_zeros r)
some_block w c r e h = rw (e, front r) (by (without_last_zeros r) (not_zeros r h))
  where
    by : (l : List ℕ) → (l ≡ [] → ⊥) → w ∷ length l ∷ l ≡ block_of w l
    by [] q = absurd (q refl)
    by (x ∷ l) q = refl

-- the blocks of a picture, window by window
no_octets : (n c : ℕ) → without_last_zeros (octets_from [] n c) ≡ []
unfolding octets_from
no_octets n zero = refl
no_octets n (suc c) = ap (before_zeros 0) (no_octets (n + 8) c)

no_blocks : (ts : List ℕ) (w k : ℕ) → ((t : ℕ) → w * 256 ≤ t → among t ts ≡ false) → blocks_from ts w k ≡ []
unfolding blocks_from
no_blocks ts w zero h = refl
no_blocks ts w (suc k) h =
    rw (octets_same [] ts (w * 256) 32 (λ i l m. h i l), no_octets (w * 256) 32) (no_blocks ts (suc w) k (λ t l. h t (omega arith)))

module _ (m : List (List ℕ)) (top : ℕ) (ts : List ℕ) (p : Holds m top ts) (w : ℕ) where
  pub next_block : w < 256 → blocks_from ts w (256 - w) ≡ block_of w (without_last_zeros (get_or m w [])) ++ blocks_from ts (w + 1) (256 - (w + 1))
  unfolding blocks_from
  next_block h =
      let q : 256 - w ≡ suc (256 - (w + 1)) = omega arith in
      rw (q, p.windows w h, add-one w)

  pub no_more : top ≤ w → blocks_from ts w (256 - w) ≡ []
  no_more h = no_blocks ts w (256 - w) (λ t l. p.above t (omega arith))
