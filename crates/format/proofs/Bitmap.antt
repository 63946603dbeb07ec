-- R[L]: the types of blocks, in any writing of a type, give back the blocks; and blocks of any types are taken whole.
use Prim.Native.Nat.{ℕ, zero, suc, ◌+◌, ◌*◌, ◌-◌, ◌≤◌, ◌<◌}
use mathlib.Core.Path.{◌≡◌, refl, sym, ap, ◌∙◌, subst}
use mathlib.Core.Bool.{Bool, true, false, cond, ◌||◌, or_assoc, or-false}
use mathlib.Core.List.{List, [], ◌∷◌, ◌++◌, map, append_assoc, append-nil}
use Rattle.std.specs.Prelude.{Option, Some}
use native.Mathlib.Omega.{arith}
use native.Mathlib.Nat.{add-zero}
use lib.ListN.{length, take, drop, length-append, length-map, replicate, length-replicate}
use lib.Dec.{leb, ltb, eqb}
use borrow.Author.Tests.{lt-ltb, le-ltb, le-leb, eq-eqb, eqb-true, ltb-false, leb-true, eqb-false, ne_eqb}
use native.Mathlib.Numerals.{unary_clauses}
use Rattle.format.specs.Lists.{◌>>=◌, cons_both, each_of, parted}
use Rattle.format.specs.Octets.{Below, Octets, ascii, among}
use Rattle.format.specs.Wire.{window, block_count, block_octet, fault, go, short, bad, took, after_move, taken}
use Rattle.format.specs.Field.{bitmap}
use Rattle.format.specs.Digits.{digits, number}
use Rattle.format.specs.Token.{Token, bare, between, scanned, plain}
use Rattle.format.specs.Bitmap.{set_bits, at_octets, types_from, types, bitmap_text, bits_of, octets_from, window_octets, before_zeros, without_last_zeros, block_of, blocks_from, blocks, read_bitmap}
use Rattle.format.specs.Base.{bits}
use Rattle.format.specs.Catalogue.{TypeName, type_text_in, type_number_in}
use Rattle.format.specs.Run.{shown, bare_of, read_field}
use Rattle.format.proofs.Lists.{bind_some, below_append}
use Rattle.format.proofs.Digits.{number_digits}
use Rattle.format.proofs.Token.{Parted, at_end_of_text, spaced, Plainly, bare_scanned, none_scanned, space_scanned}
use Rattle.format.proofs.Field.{Back, FieldLaws, got_some}
use Rattle.format.specs.Demands.{sound_names}
use Rattle.format.proofs.Catalogue.{type_text_lem, few_names, names_good, Rising, rising_from, weight, names_weight}
use Rattle.format.proofs.Base.{bits_below, bits_length}
use Rattle.format.proofs.Wire.{one_less}

-- numbers from lo to below hi
abbrev Within : ℕ → ℕ → List ℕ → Type 0
Within lo hi [] = Unit {0}
Within lo hi (x ∷ xs) = (lo ≤ x) × (x < hi) × Within lo hi xs

within_append : (lo hi : ℕ) (xs ys : List ℕ) → Within lo hi xs → Within lo hi ys → Within lo hi (xs ++ ys)
within_append lo hi [] ys h k = k
within_append lo hi (x ∷ xs) ys h k = (h.0, h.1, within_append lo hi xs ys h.2 k)

not_within : (lo hi i : ℕ) (xs : List ℕ) → Within lo hi xs → (lo ≤ i → i < hi → ⊥) → among i xs ≡ false
not_within lo hi i [] h k = refl
not_within lo hi i (x ∷ xs) h k = rw (ne_eqb i x (λ e. k (omega (arith, h.0)) (omega (arith, h.1))), not_within lo hi i xs h.2 k)

-- set bits
set_within : (lo hi n : ℕ) (bs : List ℕ) → lo ≤ n → n + length bs ≤ hi → Within lo hi (set_bits n bs)
set_within lo hi n [] h k = tt
set_within lo hi n (zero ∷ bs) h k = set_within lo hi (suc n) bs (omega arith) (omega arith)
set_within lo hi n (suc b ∷ bs) h k = (h, omega arith, set_within lo hi (suc n) bs (omega arith) (omega arith))

-- they rise
set_rising : (n : ℕ) (bs : List ℕ) → Rising n (set_bits n bs)
set_rising n [] = tt
set_rising n (zero ∷ bs) = rising_from (suc n) n (set_bits (suc n) bs) (omega arith) (set_rising (suc n) bs)
set_rising n (suc b ∷ bs) = (omega arith, set_rising (suc n) bs)

rising_append : (lo mid : ℕ) (xs ys : List ℕ) → lo ≤ mid → Rising lo xs → Within 0 mid xs → Rising mid ys → Rising lo (xs ++ ys)
rising_append lo mid [] ys l h w k = rising_from mid lo ys l k
rising_append lo mid (x ∷ xs) ys l h w k = (h.0, rising_append (suc x) mid xs ys w.1 h.1 w.2 k)

within_below : (hi : ℕ) (xs : List ℕ) → Within 0 hi xs → Below hi xs
within_below hi [] h = tt
within_below hi (x ∷ xs) h = (h.1, within_below hi xs h.2)

pub set_short : (n : ℕ) (bs : List ℕ) → length (set_bits n bs) ≤ length bs
set_short n [] = omega arith
set_short n (zero ∷ bs) = omega (arith, set_short (suc n) bs)
set_short n (suc b ∷ bs) = omega (arith, set_short (suc n) bs)

set_append : (n : ℕ) (bs cs : List ℕ) → set_bits n (bs ++ cs) ≡ set_bits n bs ++ set_bits (n + length bs) cs
set_append n [] cs = rw (add-zero n)
set_append n (zero ∷ bs) cs = let e : n + suc (length bs) ≡ suc n + length bs = omega arith in rw e (set_append (suc n) bs cs)
set_append n (suc b ∷ bs) cs = let e : n + suc (length bs) ≡ suc n + length bs = omega arith in rw (e, set_append (suc n) bs cs)

-- octets that are zero have none set
set_zeros : (xs : List ℕ) (z n : ℕ) → set_bits n (bits 8 (xs ++ replicate z 0)) ≡ set_bits n (bits 8 xs)
set_zeros [] zero n = refl
set_zeros [] (suc z) n = set_zeros [] z _
set_zeros (x ∷ xs) z n =
    set_append n (digits 2 8 x) (bits 8 (xs ++ replicate z 0)) ∙ ap (λ l. set_bits n (digits 2 8 x) ++ l) (set_zeros xs z (n + 8)) ∙ sym (set_append n (digits 2 8 x) (bits 8 xs))

-- a set that has the set bits of bs, and no others there
bits_back : (ts : List ℕ) (n : ℕ) (bs : List ℕ) → Below 2 bs → ((i : ℕ) → n ≤ i → i < n + length bs → among i ts ≡ among i (set_bits n bs)) → bits_of ts n (length bs) ≡ bs
bits_back ts n [] b h = refl
bits_back ts n (zero ∷ bs) b h =
    rw (
      h n (omega arith) (omega arith) ∙ not_within (suc n) (suc n + length bs) n (set_bits (suc n) bs) (set_within (suc n) (suc n + length bs) (suc n) bs (omega arith) (omega arith)) (omega arith),
      bits_back ts (suc n) bs b.1 (λ i l k. h i (omega arith) (omega arith)),
    )
bits_back ts n (suc zero ∷ bs) b h =
    rw (h n (omega arith) (omega arith), eq-eqb n n refl, bits_back ts (suc n) bs b.1 (λ i l k. h i (omega arith) (omega arith) ∙ rw (ne_eqb i n (omega arith))))
bits_back ts n (suc (suc c) ∷ bs) b h = absurd (omega (arith, b.0))

-- and so its octets
octets_back : (ts : List ℕ) (n : ℕ) (xs : List ℕ) → Octets xs → bits_of ts n (length (bits 8 xs)) ≡ bits 8 xs → octets_from ts n (length xs) ≡ xs
unfolding octets_from
octets_back ts n [] b e = refl
octets_back ts n (x ∷ xs) b e =
    let p : number 2 (bits_of ts n 8) ≡ x = ap (λ l. number 2 (take 8 l)) e ∙ number_digits 2 8 x (omega arith) b.0 in
    rw (p, octets_back ts (n + 8) xs b.1 (simp unary_clauses (ap (drop 8) e)))

-- "last octet not zero"
abbrev Trimmed : List ℕ → Type 0
Trimmed [] = Unit {0}
Trimmed (zero ∷ []) = ⊥
Trimmed (suc x ∷ []) = Unit {0}
Trimmed (x ∷ y ∷ xs) = Trimmed (y ∷ xs)

zeros_cut : (z : ℕ) → without_last_zeros (replicate z 0) ≡ []
zeros_cut zero = refl
zeros_cut (suc z) = rw (zeros_cut z)

trimmed_back : (xs : List ℕ) (z : ℕ) → Trimmed xs → without_last_zeros (xs ++ replicate z 0) ≡ xs
trimmed_back [] z h = zeros_cut z
trimmed_back (zero ∷ []) z h = absurd h
trimmed_back (suc x ∷ []) z h = rw (zeros_cut z)
trimmed_back (x ∷ y ∷ xs) z h = ap (before_zeros x) (trimmed_back (y ∷ xs) z h)

before_zeros_lem : (x : ℕ) (l : List ℕ) → Trimmed l → Trimmed (before_zeros x l) × (length (before_zeros x l) ≤ suc (length l))
before_zeros_lem zero [] h = (tt, omega arith)
before_zeros_lem (suc x) [] h = (tt, omega arith)
before_zeros_lem x (y ∷ l) h = (h, omega arith)

trimmed : (xs : List ℕ) → Trimmed (without_last_zeros xs) × (length (without_last_zeros xs) ≤ length xs)
trimmed [] = (tt, omega arith)
trimmed (x ∷ xs) = let (a, b) = trimmed xs in let (c, d) = before_zeros_lem x (without_last_zeros xs) a in (c, omega arith)

-- k windows from w on, each with a block or none
data Windows : ℕ → ℕ → List ℕ → Type 0 where
  done : {w : ℕ} → Windows w 0 []
  next : {w k : ℕ} (xs q : List ℕ) → length xs ≤ 32 → Trimmed xs → Octets xs → Windows (suc w) k q → Windows w (suc k) (block_of w xs ++ q)

-- the types of windows
octets_types : (xs q : List ℕ) (n : ℕ) → types_from (at_octets n (length xs)) (xs ++ q) ≡ set_bits n (bits 8 xs) ++ types q
octets_types [] q n = refl
octets_types (x ∷ xs) q n =
    ap (λ l. set_bits n (digits 2 8 x) ++ l) (octets_types xs q (n + 8)) ∙ sym (append_assoc (set_bits n (digits 2 8 x)) (set_bits (n + 8) (bits 8 xs)) (types q)) ∙
    ap (λ l. l ++ types q) (sym (set_append n (digits 2 8 x) (bits 8 xs)))

block_types : (w : ℕ) (xs q : List ℕ) → types (block_of w xs ++ q) ≡ set_bits (w * 256) (bits 8 xs) ++ types q
block_types w [] q = refl
block_types w (x ∷ xs) q = octets_types (x ∷ xs) q (w * 256)

-- each between the window's first and the next one's
block_within : (lo hi w : ℕ) (xs : List ℕ) → length xs ≤ 32 → lo ≤ w * 256 → suc w * 256 ≤ hi → Within lo hi (set_bits (w * 256) (bits 8 xs))
block_within lo hi w xs l h k = set_within lo hi (w * 256) (bits 8 xs) h (omega (arith, bits_length 8 xs))

types_within : (lo hi w k : ℕ) (p : List ℕ) → Windows w k p → lo ≤ w * 256 → (w + k) * 256 ≤ hi → Within lo hi (types p)
types_within lo hi w zero p done h l = tt
types_within lo hi w (suc k) p (next xs q a b c r) h l =
    rw (block_types w xs q) (within_append lo hi (set_bits (w * 256) (bits 8 xs)) (types q) (block_within lo hi w xs a h (omega arith)) (types_within lo hi (suc w) k q r (omega arith) (omega arith)))

types_rising : (w k : ℕ) (p : List ℕ) → Windows w k p → Rising (w * 256) (types p)
types_rising w zero p done = tt
types_rising w (suc k) p (next xs q a b c r) =
    rw (block_types w xs q)
    (rising_append (w * 256) (suc w * 256) (set_bits (w * 256) (bits 8 xs)) (types q) (omega arith) (set_rising (w * 256) (bits 8 xs)) (block_within 0 (suc w * 256) w xs a (omega arith) (omega arith)) (types_rising (suc w) k q r))

types_short : (w k : ℕ) (p : List ℕ) → Windows w k p → length (types p) ≤ 256 * k
types_short w zero p done = omega arith
types_short w (suc k) p (next xs q a b c r) =
    rw (block_types w xs q) (omega (arith, length-append (set_bits (w * 256) (bits 8 xs)) (types q), set_short (w * 256) (bits 8 xs), bits_length 8 xs, types_short (suc w) k q r))

-- a type of blocks is of the first or of those after it
among_append : (i : ℕ) (xs ys : List ℕ) → among i (xs ++ ys) ≡ among i xs || among i ys
among_append i [] ys = refl
among_append i (x ∷ xs) ys = rw (among_append i xs ys) (sym (or_assoc (eqb i x) (among i xs) (among i ys)))

among_types : (i w : ℕ) (xs q : List ℕ) → among i (types (block_of w xs ++ q)) ≡ among i (set_bits (w * 256) (bits 8 xs)) || among i (types q)
among_types i w xs q = ap (among i) (block_types w xs q) ∙ among_append i (set_bits (w * 256) (bits 8 xs)) (types q)

-- a window whose types a set has, and no others there, is filled up with zeros
zeros_octets : (z : ℕ) → Octets (replicate z 0)
zeros_octets zero = tt
zeros_octets (suc z) = (omega arith, zeros_octets z)

window_back : (ts : List ℕ) (w : ℕ) (xs : List ℕ) (z : ℕ) → length xs + z ≡ 32 → Octets xs → ((i : ℕ) → w * 256 ≤ i → i < suc w * 256 → among i ts ≡ among i (set_bits (w * 256) (bits 8 xs)))
    → window_octets ts w ≡ xs ++ replicate z 0
window_back ts w xs z e b h =
    let l : length (xs ++ replicate z 0) ≡ 32 = omega (arith, length-append xs (replicate z 0), length-replicate {A = ℕ} z 0) in
    rw l at (octets_back ts (w * 256) (xs ++ replicate z 0) (below_append 256 xs (replicate z 0) b (zeros_octets z))
    (bits_back ts (w * 256) (bits 8 (xs ++ replicate z 0)) (bits_below 8 (xs ++ replicate z 0))
    (λ i m k. h i m (omega (arith, bits_length 8 (xs ++ replicate z 0))) ∙ ap (among i) (sym (set_zeros xs z (w * 256))))))

-- so windows are the blocks of a set that has their types, and no others there
blocks_back : (ts : List ℕ) (w k : ℕ) (p : List ℕ) → Windows w k p → ((i : ℕ) → w * 256 ≤ i → i < (w + k) * 256 → among i ts ≡ among i (types p)) → blocks_from ts w k ≡ p
unfolding blocks_from
blocks_back ts w zero p done h = refl
blocks_back ts w (suc k) p (next xs q a b c r) h =
    rw (
      window_back ts w xs (32 - length xs) (omega arith) c (λ i l m. h i l (omega arith) ∙ among_types i w xs q ∙
          rw (not_within (suc w * 256) ((suc w + k) * 256) i (types q) (types_within (suc w * 256) ((suc w + k) * 256) (suc w) k q r (omega arith) (omega arith)) (omega arith)) (or-false _)),
      trimmed_back xs (32 - length xs) b,
      blocks_back ts (suc w) k q r (λ i l m. h i (omega arith) (omega arith) ∙ among_types i w xs q ∙
          rw (not_within (w * 256) (suc w * 256) i (set_bits (w * 256) (bits 8 xs)) (block_within (w * 256) (suc w * 256) w xs a (omega arith) (omega arith)) (omega arith))),
    )

-- blocks of any types are taken whole
block_takes : (w x : ℕ) (xs q : List ℕ) → Trimmed (x ∷ xs) → taken (window (suc w)) q ≡ took (length q) → taken (block_octet w (length xs)) (x ∷ xs ++ q) ≡ took (suc (length (xs ++ q)))
unfolding taken
block_takes w zero [] q h e = absurd h
block_takes w (suc x) [] q h e = rw e
block_takes w x (y ∷ xs) q h e = rw (block_takes w y xs q h e)

window_takes : (lo w : ℕ) (xs q : List ℕ) → lo ≤ w → length xs ≤ 32 → Trimmed xs → ((lo : ℕ) → lo ≤ suc w → taken (window lo) q ≡ took (length q))
    → taken (window lo) (block_of w xs ++ q) ≡ took (length (block_of w xs ++ q))
unfolding taken
window_takes lo w [] q h l t e = e lo (omega arith)
window_takes lo w (x ∷ xs) q h l t e = rw (le-ltb w lo h, le-leb (suc (length xs)) 32 l, block_takes w x xs q t (e (suc w) (omega arith)))

pub window_length : (ts : List ℕ) (n k : ℕ) → length (octets_from ts n k) ≡ k
unfolding octets_from
window_length ts n zero = refl
window_length ts n (suc k) = ap suc (window_length ts (n + 8) k)

blocks_taken : (ts : List ℕ) (k w lo : ℕ) → lo ≤ w → taken (window lo) (blocks_from ts w k) ≡ took (length (blocks_from ts w k))
unfolding taken blocks_from
blocks_taken ts zero w lo h = refl
blocks_taken ts (suc k) w lo h =
    let (t, l) = trimmed (window_octets ts w) in
    window_takes lo w (without_last_zeros (window_octets ts w)) (blocks_from ts (suc w) k) h (omega (arith, window_length ts (w * 256) 32)) t (λ lo h. blocks_taken ts k (suc w) lo h)

-- Octets that are taken whole are windows: those of a block, n and one, first.
data Block (w n : ℕ) (p : List ℕ) : Type 0 where
  block : (x : ℕ) (xs q : List ℕ) → p ≡ x ∷ xs ++ q → length xs ≡ n → Trimmed (x ∷ xs) → Octets (x ∷ xs) → Octets q → taken (window (suc w)) q ≡ took (length q) → Block w n p

none_taken : {A : Type 0} (n : ℕ) → bad ≡ took n → A
none_taken n e = let z : ◌≡◌ {A = ℕ} 0 1 = cc in absurd (omega arith)

in_block : (w n : ℕ) (p : List ℕ) → Octets p → taken (block_octet w n) p ≡ took (length p) → Block w n p
unfolding taken
in_block w n [] b e = let z : ◌≡◌ {A = ℕ} 0 1 = cc in absurd (omega arith)
in_block w zero (zero ∷ p) b e = none_taken (suc (length p)) e
in_block w zero (suc x ∷ p) b e = block (suc x) [] p refl refl tt (b.0, tt) b.1 (one_less (taken (window (suc w)) p) (length p) e)
in_block w (suc n) (x ∷ p) b e = by (in_block w n p b.1 (one_less (taken (block_octet w n) p) (length p) e))
  where
    by : Block w n p → Block w (suc n) (x ∷ p)
    by (block y xs q c l t d f g) = block x (y ∷ xs) q (ap (λ r. x ∷ r) c) (ap suc l) t (b.0, d) f g

-- taken from window w on: its block, or none
data First (w : ℕ) (p : List ℕ) : Type 0 where
  first : (xs q : List ℕ) → p ≡ block_of w xs ++ q → length xs ≤ 32 → Trimmed xs → Octets xs → Octets q → taken (window (suc w)) q ≡ took (length q) → First w p

at_count : (w : ℕ) (p : List ℕ) → Octets p → taken (block_count w) p ≡ took (length p) → First w (w ∷ p)
unfolding taken
at_count w [] b e = let z : ◌≡◌ {A = ℕ} 0 1 = cc in absurd (omega arith)
at_count w (zero ∷ p) b e = none_taken (suc (length p)) e
at_count w (suc n ∷ p) b e = by (leb (suc n) 32) refl e
  where
    on : suc n ≤ 32 → Block w n p → First w (w ∷ suc n ∷ p)
    on l (block x xs q c m t d f g) = first (x ∷ xs) q (rw (c, m)) (omega arith) t d f g

    by : (t : Bool) → leb (suc n) 32 ≡ t → after_move (cond t (go (block_octet w n)) fault) (λ s. taken s p) ≡ took (suc (length p)) → First w (w ∷ suc n ∷ p)
    by true h e = on (leb-true (suc n) 32 h) (in_block w n p b.1 (one_less (taken (block_octet w n) p) (length p) e))
    by false h e = none_taken (suc (length p)) e

at_window_lem : (w : ℕ) (p : List ℕ) → Octets p → taken (window w) p ≡ took (length p) → First w p
unfolding taken
at_window_lem w [] b e = first [] [] refl (omega arith) tt tt tt refl
at_window_lem w (x ∷ p) b e = by (ltb x w) refl (eqb x w) refl e
  where
    by : (t : Bool) → ltb x w ≡ t → (s : Bool) → eqb x w ≡ s → after_move (cond t fault (go (block_count x))) (λ s. taken s p) ≡ took (suc (length p)) → First w (x ∷ p)
    by true h s k e = none_taken (suc (length p)) e
    by false h true k e = subst (λ (v : ℕ). First v (x ∷ p)) (eqb-true x w k) (at_count x p b.1 (one_less (taken (block_count x) p) (length p) e))
    by false h false k e = let l = ltb-false x w h in first [] (x ∷ p) refl (omega arith) tt tt b (rw (le-ltb x (suc w) (omega (arith, eqb-false x w k))) e)

windows_of : (k w : ℕ) (p : List ℕ) → w + k ≡ 256 → Octets p → taken (window w) p ≡ took (length p) → Windows w k p
unfolding taken
windows_of zero w [] h b e = done
windows_of zero w (x ∷ p) h b e = none_taken (suc (length p)) (rw (lt-ltb x w (omega (arith, b.0))) at e)
windows_of (suc k) w p h b e = by (at_window_lem w p b e) (λ q. windows_of k (suc w) q (omega arith))
  where
    by : First w p → ((q : List ℕ) → Octets q → taken (window (suc w)) q ≡ took (length q) → Windows (suc w) k q) → Windows w (suc k) p
    by (first xs q c l t d f g) ih = rw c (next xs q l t d (ih q f g))

-- A way to write a type, and to read it.
pub record TypeTexts (text : ℕ → List ℕ) (value : Token → Option ℕ) : Type 0 where
  pub plain : (n : ℕ) → n < 65536 → Plainly (text n)
  pub some_octet : (n : ℕ) → n < 65536 → 1 ≤ length (text n)
  pub reads : (n : ℕ) → n < 65536 → value (bare (text n)) ≡ Some n

plain_scanned : (t r : List ℕ) → 1 ≤ length t → Plainly t → Parted r → scanned between (t ++ r) ≡ bare t ∷ scanned between r
plain_scanned [] r h k p = absurd (omega arith)
plain_scanned (x ∷ t) r h k p = bare_scanned x t r k p

-- texts with a space between them
parted_weight : (text : ℕ → List ℕ) (ts : List ℕ) → length (parted (ascii " ") (map text ts)) ≤ weight text ts
parted_weight text [] = omega arith
parted_weight text (t ∷ []) = omega arith
parted_weight text (t ∷ u ∷ ts) = omega (arith, parted_weight text (u ∷ ts), length-append (text t) (ascii " "), length-append (text t ++ ascii " ") (parted (ascii " ") (map text (u ∷ ts))))

module _ (text : ℕ → List ℕ) (value : Token → Option ℕ) (w : TypeTexts text value) where
  one_scanned : (n : ℕ) (r : List ℕ) → n < 65536 → Parted r → each_of value (scanned between (text n ++ r)) ≡ cons_both (Some n) (each_of value (scanned between r))
  one_scanned n r h p = rw (plain_scanned (text n) r (w.some_octet n h) (w.plain n h) p, w.reads n h)

  list_scanned : (ts : List ℕ) → Within 0 65536 ts → each_of value (scanned between (parted (ascii " ") (map text ts))) ≡ Some ts
  list_scanned [] h = rw none_scanned
  list_scanned (t ∷ []) h = rw (← (append-nil (text t))) (one_scanned t [] h.1 at_end_of_text ∙ rw none_scanned)
  list_scanned (t ∷ u ∷ ts) h =
      let r : List ℕ = parted (ascii " ") (map text (u ∷ ts)) in
      rw (append_assoc (text t) (ascii " ") r, one_scanned t (32 ∷ r) h.1 (spaced r), space_scanned r, list_scanned (u ∷ ts) h.2)

  module _ (p : List ℕ) (b : Octets p) (e : taken (window 0) p ≡ took (length p)) where
    of_bitmap : Windows 0 256 p
    of_bitmap = windows_of 256 0 p refl b e

    types_of_bitmap : Within 0 65536 (types p)
    types_of_bitmap = types_within 0 65536 0 256 p of_bitmap (omega arith) (omega arith)

    bitmap_back : read_bitmap value (scanned between (bitmap_text text p)) ≡ Some p
    bitmap_back = rw (list_scanned (types p) types_of_bitmap, blocks_back (types p) 0 256 p of_bitmap (λ i l m. refl))

    bitmap_bound : length (bitmap_text text p) ≤ weight text (types p)
    bitmap_bound = parted_weight text (types p)

    types_rise : Rising 0 (types p)
    types_rise = types_rising 0 256 p of_bitmap

    types_few : length (types p) ≤ 65536
    types_few = types_short 0 256 p of_bitmap

bitmap_accepted : (value : Token → Option ℕ) (ts : List Token) (p : List ℕ) → read_bitmap value ts ≡ Some p → taken (window 0) p ≡ took (length p)
bitmap_accepted value ts p e =
    let (l, a, b) = bind_some (each_of value ts) (λ l. Some (blocks l)) p e in
    let q : blocks l ≡ p = cc in
    rw (← q) (blocks_taken l 256 0 0 (omega arith))

type_texts : (c : List TypeName) → sound_names c ≡ true → TypeTexts (type_text_in c) (λ t. bare_of t >>= type_number_in c)
type_texts c g = record { plain = λ n h. (type_text_lem c g n h).plain; some_octet = λ n h. (type_text_lem c g n h).some_octet; reads = λ n h. (type_text_lem c g n h).reads }

pub bitmap_laws : (c : List TypeName) → sound_names c ≡ true → FieldLaws c bitmap
unfolding Back shown read_field
bitmap_laws c g = record {
  back = λ o p b e r q t.
      rw (t refl, append-nil (bitmap_text (type_text_in c) p), bitmap_back (type_text_in c) (λ t. bare_of t >>= type_number_in c) (type_texts c g) p b e, none_scanned);
  bound = λ p b e.
      let x = type_texts c g in
      omega (
        arith,
        bitmap_bound (type_text_in c) (λ t. bare_of t >>= type_number_in c) x p b e,
        names_weight c (names_good c g) (types p) (types_rise (type_text_in c) (λ t. bare_of t >>= type_number_in c) x p b e) (within_below 65536 (types p) (types_of_bitmap (type_text_in c) (λ t. bare_of t >>= type_number_in c) x p b e)),
        types_few (type_text_in c) (λ t. bare_of t >>= type_number_in c) x p b e,
        few_names c g,
      );
  accepted = λ o n ts us p e. bitmap_accepted (λ t. bare_of t >>= type_number_in c) ts p (got_some _ [] us p e);
}
