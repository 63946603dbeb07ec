-- Laws of digits that are written as characters: group by group, and the last group.
use Prim.Native.Nat.{ℕ, zero, suc, min, ◌+◌, ◌*◌, ◌-◌, ◌/◌, ◌%◌, ◌^◌, ◌≤◌, ◌<◌}
use mathlib.Core.Path.{◌≡◌, refl, sym, ap, ◌∙◌}
use mathlib.Core.List.{List, [], ◌∷◌, ◌++◌, map, map-append, append-nil}
use native.Mathlib.Omega.{arith}
use native.Mathlib.Nat.{mul-suc, mul_comm, mul_assoc, div-lt_iff_lt-mul, div-eq_of_lt-le, div-le_self, add-zero, zero-add}
use native.Mathlib.Numerals.{add-one}
use native.Mathlib.Decide.{dec_lt}
use borrow.Author.Rules.{rules}
use lib.ListN.{length, get_or, take, drop, replicate, length-append, length-map, length-take, length-replicate, take-append-drop}
use lib.Seq.{sets, take-take, take-add, take_all, length-sets, drop-cons}
use Rattle.std.specs.Simd.{first_chunks}
use Rattle.format.specs.Lists.{flat}
use Rattle.format.specs.Octets.{Below}
use Rattle.format.specs.Digits.{digits, number}
use Rattle.format.specs.Base.{bits, to_digits, base64_char, base64_text}
use Rattle.format.proofs.Digits.{digits_length}
use Rattle.format.proofs.Base.{digits_of}
use Rattle.buffer.specs.Writing.{Wrote}
use Rattle.buffer.proofs.Laws.{sets_cons, wrote_text, wrote_append, wrote_length, wrote_out}
use Rattle.base.specs.Alphabet.{chars, Grouped}
use Rattle.base.proofs.Digits.{whole_digits, digits_append, digit_count, short_digits}

pub one_more : (k i : ℕ) → k * (i + 1) ≡ k * i + k
one_more k i = rw (add-one i, mul-suc k i)

-- octets stored into zeros, and the zeros after them
take_zeros : (g q : ℕ) → g ≤ q → take {A = ℕ} g (replicate q 0) ≡ replicate g 0
take_zeros zero q h = refl
take_zeros (suc g) zero h = absurd (omega arith)
take_zeros (suc g) (suc q) h = ap (λ t. 0 ∷ t) (take_zeros g q (omega arith))

before_zeros_lem : (xs : List ℕ) (g q : ℕ) → length xs ≤ g → g ≤ q → take g (sets (replicate q 0) 0 xs) ≡ xs ++ replicate (g - length xs) 0
before_zeros_lem [] g q h l = let e : g - 0 ≡ g = omega arith in rw e (take_zeros g q l)
before_zeros_lem (x ∷ xs) zero q h l = absurd (omega arith)
before_zeros_lem (x ∷ xs) (suc g) zero h l = absurd (omega arith)
before_zeros_lem (x ∷ xs) (suc g) (suc q) h l =
    let e : suc g - suc (length xs) ≡ g - length xs = omega arith in
    rw (sets_cons x (replicate q 0) 0 xs, e) (ap (λ t. x ∷ t) (before_zeros_lem xs g q (omega arith) (omega arith)))

take_map : (f : ℕ → ℕ) (k : ℕ) (ds : List ℕ) → take k (map f ds) ≡ map f (take k ds)
take_map f zero ds = refl
take_map f (suc k) [] = refl
take_map f (suc k) (d ∷ ds) = ap (λ t. f d ∷ t) (take_map f k ds)

-- pieces of g octets, and all of them in a row
pieces_flat : (g k c : ℕ) (p : List ℕ) → c ≤ k → flat (take c (first_chunks g k p)) ≡ take (g * c) p
pieces_flat g k zero p h = let e : g * 0 ≡ 0 = omega arith in rw e
pieces_flat g zero (suc c) p h = absurd (omega arith)
pieces_flat g (suc k) (suc c) p h =
    let e : g * suc c ≡ g + g * c = omega (arith, mul-suc g c) in
    ap (λ xs. take g p ++ xs) (pieces_flat g k c (drop g p) (omega arith)) ∙ sym (take-add g (g * c) p) ∙ ap (λ n. take n p) (sym e)

pub pieces_front : (g n c : ℕ) (p : List ℕ) (ps : List (List ℕ)) → ps ≡ first_chunks g n p → c ≤ n → flat (take c ps) ≡ take (g * c) p
pieces_front g n c p ps e h = rw e (pieces_flat g n c p h)

pub next_piece : (ps : List (List ℕ)) (i : ℕ) (x : List ℕ) → i < length ps → x ≡ get_or ps i x → flat (drop i ps) ≡ x ++ flat (drop (i + 1) ps)
next_piece ps i x h e = rw (add-one i, drop-cons ps i x h, ← e)

-- octets stored into a buffer of zeros
filled_up : (xs : List ℕ) (g : ℕ) → length xs ≤ g → sets (replicate g 0) 0 xs ≡ xs ++ replicate (g - length xs) 0
filled_up xs g h =
    sym (take_all g (sets (replicate g 0) 0 xs) (omega (arith, length-sets (replicate {A = ℕ} g 0) 0 xs, length-replicate {A = ℕ} g 0))) ∙ before_zeros_lem xs g g h (omega arith)

module _ (w g n : ℕ) (t : List ℕ) (grouped : Grouped w g n) where
  -- the characters of a group
  abbrev group_text_lem : List ℕ → List ℕ
  group_text_lem xs = chars t (digits n (8 * g / w) (number 2 (bits 8 xs)))

  group_length : (xs : List ℕ) → length (group_text_lem xs) ≡ 8 * g / w
  group_length xs = length-map (digits n (8 * g / w) (number 2 (bits 8 xs))) (λ d. get_or t d 0) ∙ digits_length n (8 * g / w) (number 2 (bits 8 xs))

  -- a group is stored
  pub stored : (o o' : List ℕ) (at v : ℕ) (xs : List ℕ) → v ≡ number 2 (bits 8 xs) → o' ≡ sets o at (chars t (digits n (8 * g / w) v)) → Wrote o o' at (at + 8 * g / w) (group_text_lem xs)
  stored o o' at v xs e p = record { octets = rw e at p; count = ap (λ l. at + l) (sym (group_length xs)) }

  text_length : (f : ℕ → ℕ) (p : List ℕ) → length (map f (to_digits w p)) ≡ (8 * length p + w - 1) / w
  text_length f p = length-map (to_digits w p) f ∙ digit_count w grouped.some_bits p

  -- where a text ends, whatever its characters are
  pub near : {o o' : List ℕ} {at m : ℕ} (f : ℕ → ℕ) (p : List ℕ) → length p ≤ 65535 → Wrote o o' at m (map f (to_digits w p)) → m ≤ at + 2 ^ 20
  near f p h v = omega (arith, v.count, text_length f p, div-le_self (8 * length p + w - 1) w, grouped.few_bits)

  whole_groups : (c : ℕ) → w * (8 * g / w * c) ≡ 8 * (g * c)
  whole_groups c = sym (mul_assoc w (8 * g / w) c) ∙ ap (λ x. x * c) grouped.whole ∙ mul_assoc 8 g c

  -- the same for c groups; and the buffer keeps its length
  pub placed : {o o' : List ℕ} {at m : ℕ} (f : ℕ → ℕ) (p : List ℕ) (c : ℕ) → length p ≡ g * c → Wrote o o' at m (map f (to_digits w p)) → (m ≡ at + 8 * g / w * c) × (length o' ≡ length o)
  placed {at = at} f p c l v =
      let k : ℕ = 8 * g / w * c in
      let q : k * w ≡ 8 * (g * c) = mul_comm k w ∙ whole_groups c in
      let e : (8 * (g * c) + w - 1) / w ≡ k = div-eq_of_lt-le {k = k} w {m = 8 * (g * c) + w - 1} (omega (arith, grouped.some_bits)) (omega (arith, grouped.some_bits)) in
      (v.count ∙ ap (λ x. at + x) (text_length f p ∙ ap (λ x. (8 * x + w - 1) / w) l ∙ e), wrote_length v)

  -- octets that make whole digits, and the rest
  two_texts : (k : ℕ) (xs ys : List ℕ) → w * k ≡ 8 * length xs → chars t (to_digits w (xs ++ ys)) ≡ chars t (to_digits w xs) ++ chars t (to_digits w ys)
  two_texts k xs ys q =
      ap (chars t) (digits_append w grouped.some_bits k xs ys q) ∙ map-append (λ d. get_or t d 0) (to_digits w xs) (to_digits w ys)

  texts_after : (c : ℕ) (xs ys : List ℕ) → length xs ≡ g * c → chars t (to_digits w (xs ++ ys)) ≡ chars t (to_digits w xs) ++ chars t (to_digits w ys)
  texts_after c xs ys l = two_texts (8 * g / w * c) xs ys (omega (arith, whole_groups c))

  group_whole : (xs : List ℕ) → length xs ≡ g → chars t (to_digits w xs) ≡ group_text_lem xs
  group_whole xs l = rw (whole_digits w grouped.some_bits (8 * g / w) xs (omega (arith, grouped.whole)), grouped.size)

  pub next_group : (xs ys : List ℕ) → length xs ≡ g → chars t (to_digits w (xs ++ ys)) ≡ group_text_lem xs ++ chars t (to_digits w ys)
  next_group xs ys l =
      two_texts (8 * g / w) xs ys (omega (arith, grouped.whole)) ∙ ap (λ s. s ++ chars t (to_digits w ys)) (group_whole xs l)

  pub digits_fit : (r : ℕ) → r ≤ g → (8 * r + w - 1) / w ≤ 8 * g / w
  digits_fit r h =
      let m : (8 * r + w - 1) / w < 8 * g / w + 1 = (div-lt_iff_lt-mul grouped.some_bits).1 (omega (arith, grouped.whole, grouped.some_bits)) in
      omega arith

  -- the first characters of a group that is filled up with zeros are those of its octets
  short_group : (v k : ℕ) (xs : List ℕ) → length xs ≤ g → v ≡ number 2 (bits 8 (sets (replicate g 0) 0 xs)) → k ≡ (8 * length xs + w - 1) / w
      → take k (sets (replicate 8 0) 0 (chars t (digits n (8 * g / w) v))) ≡ chars t (to_digits w xs)
  short_group v k xs h e q =
      let K : ℕ = 8 * g / w in
      let ds : List ℕ = digits n K v in
      let l : length (chars t ds) ≡ K = length-map ds (λ d. get_or t d 0) ∙ digits_length n K v in
      let few : k ≤ K = omega (arith, digits_fit (length xs) h) in
      let z : K - length (chars t ds) ≡ 0 = omega arith in
      sym (take-take k K (sets (replicate 8 0) 0 (chars t ds)) few)
      ∙ ap (take k) (before_zeros_lem (chars t ds) K 8 (omega arith) grouped.few_digits ∙ ap (λ m. chars t ds ++ replicate m 0) z ∙ append-nil (chars t ds))
      ∙ take_map (λ d. get_or t d 0) k ds
      ∙ ap (chars t) digits_right
    where
      digits_right : take k (digits n (8 * g / w) v) ≡ to_digits w xs
      digits_right =
          let b : v ≡ number 2 (bits 8 (xs ++ replicate (g - length xs) 0)) = e ∙ ap (λ ys. number 2 (bits 8 ys)) (filled_up xs g h) in
          rw (b, q, grouped.size) (short_digits w grouped.some_bits (8 * g / w) (g - length xs) xs grouped.few_bits (omega (arith, grouped.whole)))

  pub group_wrote : {o o' : List ℕ} {at m : ℕ} (p : List ℕ) (v k : ℕ) (q x : List ℕ) → length p ≤ g → q ≡ sets (replicate g 0) 0 p
      → v ≡ number 2 (bits 8 q) → x ≡ sets (replicate 8 0) 0 (chars t (digits n (8 * g / w) v)) → k ≡ (8 * length p + w - 1) / w
      → Wrote o o' at m (take k x) → Wrote o o' at m (chars t (to_digits w p))
  group_wrote p v k q x l eq ev ex ek u =
      let d : v ≡ number 2 (bits 8 (sets (replicate g 0) 0 p)) = rw eq at ev in
      wrote_text _ _ (ap (take k) ex ∙ short_group v k p l d ek) u

  -- Octets that are at most one group, or of which only the first group has room.
  pub rest_wrote : {o o' : List ℕ} {at m : ℕ} (p : List ℕ) (h r : ℕ) → h ≡ min (length p) g → (g < length p → length o ≤ at + 8 * g / w)
      → r ≡ at + (8 * length p + w - 1) / w → Wrote o o' at m (chars t (to_digits w (take h p))) → Wrote o o' at r (chars t (to_digits w p))
  rest_wrote {o} {o'} {at} {m} p h r b out q v = by (dec_lt g (length p))
    where
      by : Dec (g < length p) → Wrote o o' at r (chars t (to_digits w p))
      by (no f) =
          let u : Wrote o o' at m (chars t (to_digits w p)) = rw (take_all h p (omega arith)) at v in
          record { octets = u.octets; count = q ∙ ap (λ x. at + x) (sym (text_length (λ d. get_or t d 0) p)) }
      by (yes f) =
          let x : h ≡ g = omega arith in
          let xs : List ℕ = take g p in
          let ys : List ℕ = drop g p in
          let l : length xs ≡ g = omega (arith, length-take g p) in
          let u : Wrote o o' at m (group_text_lem xs) = rw (x, group_whole (take g p) l) at v in
          let s : List ℕ = chars t (to_digits w ys) in
          let d : chars t (to_digits w p) ≡ group_text_lem xs ++ s = ap (λ zs. chars t (to_digits w zs)) (sym (take-append-drop g p)) ∙ next_group xs ys l in
          let k : length (group_text_lem xs) ≡ 8 * g / w = group_length xs in
          wrote_text _ _ (sym d)
          (wrote_out r s u (omega (arith, u.count, out f)) (omega (arith, u.count, ap length d, length-append (group_text_lem xs) s, text_length (λ d. get_or t d 0) p)))

-- the characters of the digits from k on
abbrev alphabet_from : (ℕ → ℕ) → ℕ → ℕ → List ℕ
alphabet_from char k zero = []
alphabet_from char k (suc b) = char k ∷ alphabet_from char (suc k) b

-- the alphabet of the digits below b
abbrev pub alphabet : (ℕ → ℕ) → ℕ → List ℕ
alphabet char b = alphabet_from char 0 b

char_at : (char : ℕ → ℕ) (k b d : ℕ) → d < b → get_or (alphabet_from char k b) d 0 ≡ char (k + d)
char_at char k zero d h = absurd (omega arith)
char_at char k (suc b) zero h = ap char (sym (add-zero k))
char_at char k (suc b) (suc d) h = let e : suc k + d ≡ k + suc d = omega arith in char_at char (suc k) b d (omega arith) ∙ ap char e

chars_are : (char : ℕ → ℕ) (b : ℕ) (ds : List ℕ) → Below b ds → chars (alphabet char b) ds ≡ map char ds
chars_are char b [] k = refl
chars_are char b (d ∷ ds) k = rw (char_at char 0 b d k.0, zero-add d, chars_are char b ds k.1)

-- the whole groups and the rest are written
pub all_wrote : {o o₁ o₂ : List ℕ} {at m r : ℕ} (w g n : ℕ) (char : ℕ → ℕ) (p : List ℕ) → Grouped w g n → n ≡ 2 ^ w → (c : ℕ) → g * c ≤ length p
    → Wrote o o₁ at m (chars (alphabet char n) (to_digits w (take (g * c) p))) → Wrote o₁ o₂ m r (chars (alphabet char n) (to_digits w (drop (g * c) p)))
    → Wrote o o₂ at r (map char (to_digits w p))
all_wrote w g n char p grouped e c h u v =
    let t : List ℕ = alphabet char n in
    let d : Below n (to_digits w p) = rw e (digits_of w p) in
    wrote_text _ _
    (sym (texts_after w g n t grouped c (take (g * c) p) (drop (g * c) p) (omega (arith, length-take (g * c) p))) ∙ ap (λ xs. chars t (to_digits w xs)) (take-append-drop (g * c) p) ∙ chars_are char n (to_digits w p) d)
    (wrote_append u v)

pub grouped32 : Grouped 5 5 32
grouped32 = search rules

pub grouped64 : Grouped 6 3 64
grouped64 = search rules

-- padding after the digits
pads : (k : ℕ) → k ≤ 3 → take {A = ℕ} k (61 ∷ 61 ∷ 61 ∷ []) ≡ replicate k 61
pads zero h = refl
pads (suc zero) h = refl
pads (suc (suc zero)) h = refl
pads (suc (suc (suc zero))) h = refl
pads (suc (suc (suc (suc k)))) h = absurd (omega arith)

pads_as : (j k : ℕ) → j ≡ k → k ≤ 3 → take {A = ℕ} j (61 ∷ 61 ∷ 61 ∷ []) ≡ replicate k 61
pads_as j k e h = rw e (pads k h)

pub padded : {o o₁ o₂ : List ℕ} {n m r : ℕ} (xs : List ℕ) → Wrote o o₁ n m (map base64_char (to_digits 6 xs)) → Wrote o₁ o₂ m r (take ((4 - (m - n) % 4) % 4) (61 ∷ 61 ∷ 61 ∷ []))
    → Wrote o o₂ n r (base64_text xs)
padded {n = n} {m = m} xs v w =
    let l : m - n ≡ length (to_digits 6 xs) = omega (arith, v.count, length-map (to_digits 6 xs) base64_char) in
    let k : ℕ = (4 - length (to_digits 6 xs) % 4) % 4 in
    let z : (4 - (m - n) % 4) % 4 ≡ k = rw l in
    wrote_append v (wrote_text _ _ (pads_as ((4 - (m - n) % 4) % 4) k z (omega arith)) w)
