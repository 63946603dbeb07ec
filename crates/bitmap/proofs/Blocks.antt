-- Laws of blocks: of octets that are whole blocks, and of their types.
use Prim.Native.Nat.{ℕ, zero, suc, ◌+◌, ◌-◌, ◌*◌, ◌≤◌, ◌<◌}
use mathlib.Core.Path.{◌≡◌, refl, sym, ap, subst, ◌∙◌}
use mathlib.Core.Bool.{Bool, true, false, not, cond}
use mathlib.Core.List.{List, [], ◌∷◌, ◌++◌, append_assoc}
use native.Mathlib.Omega.{arith}
use lib.ListN.{length, take, drop, get_or, length-append, length-drop}
use lib.Dec.{ltb, leb}
use lib.Seq.{drop-drop}
use Rattle.format.proofs.Lists.{drop_next, drop_none}
use borrow.Author.Tests.{leb-true}
use Rattle.format.specs.Wire.{Move, fault, go, took, taken, window, block_count, block_octet}
use Rattle.format.specs.Digits.{digits}
use Rattle.format.specs.Bitmap.{BlockPlace, at_window, at_count, at_octet, set_bits, at_octets, types_from, types}
use Rattle.format.proofs.Digits.{digits_length}
use Rattle.format.proofs.Wire.{at_end_lem}
use Rattle.format.proofs.Text.{went_on}
use Rattle.format.proofs.Bitmap.{set_short}
use Rattle.bitmap.specs.Types.{types_text}
use Rattle.bitmap.proofs.Texts.{Short, types_length}

-- Octets that are whole blocks: the first fits in it, and the rest is whole blocks.
abbrev pub Whole : List ℕ → Type 0
Whole xs = (lo : ℕ) × (taken (window lo) xs ≡ took (length xs))

octets_whole : (w n : ℕ) (xs : List ℕ) → taken (block_octet w n) xs ≡ took (length xs) → (suc n ≤ length xs) × Whole (drop (suc n) xs)
octets_whole w n [] e = let z : ◌≡◌ {A = ℕ} 0 1 = cc (at_end_lem (block_octet w n) 0 e).0 in absurd (omega arith)
octets_whole w zero (zero ∷ xs) e = let z : ◌≡◌ {A = ℕ} 0 1 = cc (went_on (block_octet w zero) (window w) false zero xs (length xs) refl e).0 in absurd (omega arith)
octets_whole w zero (suc x ∷ xs) e = (omega arith, (suc w, (went_on (block_octet w zero) (window (suc w)) true (suc x) xs (length xs) refl e).1))
octets_whole w (suc n) (x ∷ xs) e =
    let (a, b) = octets_whole w n xs (went_on (block_octet w (suc n)) (block_octet w n) true x xs (length xs) refl e).1 in (omega arith, b)

count_whole : (w c : ℕ) (xs : List ℕ) → taken (block_count w) (c ∷ xs) ≡ took (suc (length xs)) → (c ≤ 32) × (c ≤ length xs) × Whole (drop c xs)
count_whole w zero xs e = let z : ◌≡◌ {A = ℕ} 0 1 = cc (went_on (block_count w) (window w) false zero xs (length xs) refl e).0 in absurd (omega arith)
count_whole w (suc n) xs e =
    let (a, b) = went_on (block_count w) (block_octet w n) (leb (suc n) 32) (suc n) xs (length xs) refl e in
    let (l, r) = octets_whole w n xs b in
    (leb-true (suc n) 32 a, l, r)

turned : (b : Bool) (m n : Move) → cond b m n ≡ cond (not b) n m
turned true m n = refl
turned false m n = refl

block_whole : (w : ℕ) (xs : List ℕ) → Whole (w ∷ xs) → (1 ≤ length xs) × (taken (block_count w) xs ≡ took (length xs))
block_whole w xs (lo, e) = by xs (went_on (window lo) (block_count w) (not (ltb w lo)) w xs (length xs) (turned (ltb w lo) fault (go (block_count w))) e).1
  where
    by : (xs : List ℕ) → taken (block_count w) xs ≡ took (length xs) → (1 ≤ length xs) × (taken (block_count w) xs ≡ took (length xs))
    by [] t = let z : ◌≡◌ {A = ℕ} 0 1 = cc (at_end_lem (block_count w) 0 t).0 in absurd (omega arith)
    by (c ∷ xs) t = (omega arith, t)

-- what is left of whole blocks, from i on
pub whole_first : (p : List ℕ) → taken (window 0) p ≡ took (length p) → Whole p
whole_first p h = (0, h)

module _ (p : List ℕ) (i : ℕ) (h : i < length p) (w : Whole (drop i p)) where
  whole_one : (1 ≤ length (drop (i + 1) p)) × (taken (block_count (get_or p i 0)) (drop (i + 1) p) ≡ took (length (drop (i + 1) p)))
  whole_one = block_whole (get_or p i 0) (drop (i + 1) p) (subst Whole (drop_next p i h) w)

  pub count_there : i + 1 < length p
  count_there = omega (arith, whole_one, length-drop (i + 1) p)

  after_count : drop (i + 1) p ≡ get_or p (i + 1) 0 ∷ drop (i + 2) p
  after_count = let q : i + 1 + 1 ≡ i + 2 = omega arith in drop_next p (i + 1) count_there ∙ ap (λ (k : ℕ). get_or p (i + 1) 0 ∷ drop k p) q

  pub block_there : (get_or p (i + 1) 0 ≤ 32) × (i + 2 + get_or p (i + 1) 0 ≤ length p) × Whole (drop (i + 2 + get_or p (i + 1) 0) p)
  block_there =
      let c : ℕ = get_or p (i + 1) 0 in
      let (a, b, r) = count_whole (get_or p i 0) c (drop (i + 2) p) (subst (λ (xs : List ℕ). taken (block_count (get_or p i 0)) xs ≡ took (length xs)) after_count whole_one.1) in
      (a, omega (arith, length-drop (i + 2) p, count_there), subst Whole (drop-drop c (i + 2) p) r)

-- the types of a block's octets, one by one
pub octet_types : (p : List ℕ) (i v : ℕ) → i < length p
    → types_from (at_octets v (length p - i)) (drop i p) ≡ set_bits v (digits 2 8 (get_or p i 0)) ++ types_from (at_octets (v + 8) (length p - (i + 1))) (drop (i + 1) p)
octet_types p i v h = let q : length p - i ≡ suc (length p - (i + 1)) = omega arith in rw (q, drop_next p i h)

pub no_octets : (p : List ℕ) (i : ℕ) (s : BlockPlace) → length p ≤ i → types_from s (drop i p) ≡ []
no_octets p i s h = rw (drop_none p i h)

-- the types of a block, and then those of the blocks after it
octets_then : (c v : ℕ) (xs : List ℕ) → c ≤ length xs → types_from (at_octets v c) xs ≡ types_from (at_octets v c) (take c xs) ++ types (drop c xs)
octets_then zero v xs h = refl
octets_then (suc c) v [] h = absurd (omega arith)
octets_then (suc c) v (x ∷ xs) h =
    rw (octets_then c (v + 8) xs (omega arith)) (sym (append_assoc (set_bits v (digits 2 8 x)) (types_from (at_octets (v + 8) c) (take c xs)) (types (drop c xs))))

pub block_types : (p : List ℕ) (i c n : ℕ) → i + 1 < length p → c ≡ get_or p (i + 1) 0 → i + 2 + c ≤ length p → n ≡ c
    → types (drop i p) ≡ types_from (at_octets (get_or p i 0 * 256) n) (take c (drop (i + 2) p)) ++ types (drop (i + 2 + c) p)
block_types p i c n k a l e =
    let q : i + 1 + 1 ≡ i + 2 = omega arith in
    rw (drop_next p i (omega arith), drop_next p (i + 1) k, ← a, q, e, ← drop-drop c (i + 2) p) (octets_then c (get_or p i 0 * 256) (drop (i + 2) p) (omega (arith, length-drop (i + 2) p)))

-- at most eight types for each octet
types_short : (s : BlockPlace) (xs : List ℕ) → length (types_from s xs) ≤ 8 * length xs
types_short s [] = omega arith
types_short at_window (w ∷ xs) = omega (arith, types_short (at_count w) xs)
types_short (at_count w) (c ∷ xs) = omega (arith, types_short (at_octets (w * 256) c) xs)
types_short (at_octet v m) (x ∷ xs) =
    omega (arith, types_short (at_octets (v + 8) m) xs, length-append (set_bits v (digits 2 8 x)) (types_from (at_octets (v + 8) m) xs), set_short v (digits 2 8 x), digits_length 2 8 x)

pub block_length : (text : ℕ → List ℕ) → Short text → (b : Bool) (s : BlockPlace) (p : List ℕ) → length (types_text text b (types_from s p)) ≤ 512 * length p
block_length text short b s p = omega (arith, types_length text short b (types_from s p), types_short s p)
