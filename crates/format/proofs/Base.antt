-- B32 and B64: digits of w bits give back the octets, for any width; so one law serves both.
use Prim.Native.Nat.{ℕ, zero, suc, ◌+◌, ◌*◌, ◌-◌, ◌/◌, ◌%◌, ◌^◌, ◌≤◌, ◌<◌}
use Prim.Native.Char.{code}
use mathlib.Core.Path.{◌≡◌, refl, ap, ◌∙◌}
use mathlib.Core.Bool.{Bool, true, false, cond}
use mathlib.Core.List.{List, [], ◌∷◌, ◌++◌, map, append_assoc, append-nil}
use Rattle.std.specs.Prelude.{Some}
use native.Mathlib.Omega.{arith}
use native.Mathlib.Nat.{pow-suc, add-zero, mul-le-mul_right, one-le-pow}
use lib.ListN.{length, drop, length-append, length-map, replicate, length-replicate, length-drop}
use lib.Dec.{eqb}
use borrow.Author.Tests.{lt-ltb, eq-eqb, ne_eqb}
use Rattle.format.specs.Lists.{◌>>=◌, each_of, span}
use Rattle.format.specs.Octets.{Below, Octets}
use Rattle.format.specs.Wire.{count, took, taken}
use Rattle.format.specs.Field.{b32, b64}
use Rattle.format.specs.Digits.{digits, number_from, upper_digit, digit_value}
use Rattle.format.specs.Token.{between, scanned}
use Rattle.format.specs.Text.{with_count, counted}
use Rattle.format.specs.Base.{bits, filled, whole_octets, to_digits, from_digits, base32_text, read_base32, base64_char, base64_value, padding, base64_text, not_padding, read_base64}
use Rattle.format.specs.Catalogue.{TypeName}
use Rattle.format.specs.Run.{shown, got, one_bare, read_field}
use Rattle.format.proofs.Lists.{bind_some, below_append, same_octets_lem}
use Rattle.format.proofs.Finite.{all_below, at_each}
use Rattle.format.proofs.Digits.{digits_below, digits_length, number_digits, chars_back}
use Rattle.format.proofs.Wire.{end_some}
use Rattle.format.proofs.Token.{Parted, plainly, Plainly, chars_plain, plain_append}
use Rattle.format.proofs.Field.{Back, FieldLaws, bare_back, all_back, bare_accepted, all_accepted, counted_accepted, Counted, is_counted, counted_octets, counted_some}

-- a number and one bit more, before other bits
bit_after : (w k v b : ℕ) (r : List ℕ) → w ≡ suc k → b < 2 → digits 2 w (v * 2 + b) ++ r ≡ digits 2 k v ++ b ∷ r
bit_after w k v b r e h =
    let q : (v * 2 + b) / 2 ≡ v = omega arith in
    let s : (v * 2 + b) % 2 ≡ b = omega arith in
    rw (e, q, s, append_assoc (digits 2 k v) (b ∷ []) r)

-- a number and m zeros more
zeros_after : (m k v : ℕ) → digits 2 (k + m) (v * 2 ^ m) ≡ digits 2 k v ++ replicate m 0
zeros_after zero k v = let e : v * 2 ^ 0 ≡ v = omega arith in rw (add-zero k, e, append-nil (digits 2 k v))
zeros_after (suc m) k v =
    let e : k + suc m ≡ suc k + m = omega arith in
    let q : v * 2 ^ suc m ≡ (v * 2 + 0) * 2 ^ m = rw (pow-suc 2 m) (omega arith) in
    rw (e, q, zeros_after m (suc k) (v * 2 + 0)) (bit_after (suc k) k v 0 (replicate m 0) refl (omega arith))

-- the bits of the digit begun, of which k are there, those that follow, and fewer than w zeros
filled_bits : (w k m v : ℕ) (bs : List ℕ) → k + m ≡ w → 1 ≤ m → Below 2 bs → (z : ℕ) × (z < w) × (bits w (filled w m v bs) ≡ digits 2 k v ++ (bs ++ replicate z 0))
filled_bits w zero m v [] e h b = (0, omega arith, rw (eq-eqb m w (omega arith)))
filled_bits w (suc k) m v [] e h b = (m, omega arith, rw (ne_eqb m w (omega arith), append-nil (digits 2 w (v * 2 ^ m)), ← e) (zeros_after m (suc k) v))
filled_bits w k zero v (c ∷ bs) e h b = absurd (omega arith)
filled_bits w k (suc zero) v (c ∷ bs) e h b =
    let (z, l, p) = filled_bits w 0 w 0 bs (omega arith) (omega arith) b.1 in
    (z, l, rw p (bit_after w k v c (bs ++ replicate z 0) (omega arith) b.0))
filled_bits w k (suc (suc m)) v (c ∷ bs) e h b =
    let (z, l, p) = filled_bits w (suc k) (suc m) (v * 2 + c) bs (omega arith) (omega arith) b.1 in
    (z, l, p ∙ bit_after (suc k) k v c (bs ++ replicate z 0) refl b.0)

-- digits of w bits
filled_below : (w m v : ℕ) (bs : List ℕ) → suc v * 2 ^ m ≤ 2 ^ w → Below 2 bs → Below (2 ^ w) (filled w m v bs)
filled_below w m v [] h b = by (eqb m w)
  where
    by : (t : Bool) → Below (2 ^ w) (cond t [] (v * 2 ^ m ∷ []))
    by true = tt
    by false = (omega (arith, one-le-pow m 2 (omega arith)), tt)
filled_below w zero v (c ∷ bs) h b = tt
filled_below w (suc zero) v (c ∷ bs) h b = (omega (arith, b.0), filled_below w w 0 bs (omega arith) b.1)
filled_below w (suc (suc m)) v (c ∷ bs) h b =
    let l : suc (v * 2 + c) ≤ suc v * 2 = omega (arith, b.0) in
    let g : suc v * (2 ^ suc m * 2) ≤ 2 ^ w = rw (pow-suc 2 (suc m)) at h in
    filled_below w (suc m) (v * 2 + c) bs (omega (arith, mul-le-mul_right (2 ^ suc m) l)) b.1

-- the bits of octets
pub bits_below : (w : ℕ) (xs : List ℕ) → Below 2 (bits w xs)
bits_below w [] = tt
bits_below w (x ∷ xs) = below_append 2 (digits 2 w x) (bits w xs) (digits_below 2 w x (omega arith)) (bits_below w xs)

pub bits_length : (w : ℕ) (xs : List ℕ) → length (bits w xs) ≡ w * length xs
bits_length w [] = omega arith
bits_length w (x ∷ xs) = omega (arith, length-append (digits 2 w x) (bits w xs), digits_length 2 w x, bits_length w xs)

-- the bits of an octet
octet_whole : (w v : ℕ) (bs r : List ℕ) (x : ℕ) (xs : List ℕ) → 1 ≤ length bs → number_from 2 v bs ≡ x → whole_octets w 8 0 r ≡ Some xs → whole_octets w (length bs) v (bs ++ r) ≡ Some (x ∷ xs)
octet_whole w v [] r x xs h n e = absurd (omega arith)
octet_whole w v (b ∷ []) r x xs h n e = rw (e, n)
octet_whole w v (b ∷ c ∷ bs) r x xs h n e = octet_whole w (v * 2 + b) (c ∷ bs) r x xs (omega arith) n e

-- bits left over
left_over : (w m z : ℕ) → m ≤ 8 → z < m → 8 - m + z < w → whole_octets w m 0 (replicate z 0) ≡ Some []
left_over w m zero e h l = rw (lt-ltb (8 - m) w (omega arith))
left_over w zero (suc z) e h l = absurd (omega arith)
left_over w (suc zero) (suc z) e h l = absurd (omega arith)
left_over w (suc (suc m)) (suc z) e h l = left_over w (suc m) z (omega arith) (omega arith) (omega arith)

octets_whole : (w z : ℕ) (xs : List ℕ) → z < w → w ≤ 8 → Octets xs → whole_octets w 8 0 (bits 8 xs ++ replicate z 0) ≡ Some xs
octets_whole w z [] l h b = left_over w 8 z (omega arith) (omega arith) (omega arith)
octets_whole w z (x ∷ xs) l h b =
    octet_whole w 0 (digits 2 8 x) (bits 8 xs ++ replicate z 0) x xs (omega arith) (number_digits 2 8 x (omega arith) b.0) (octets_whole w z xs l h b.1)

-- the digits of octets
pub digits_of : (w : ℕ) (xs : List ℕ) → Below (2 ^ w) (to_digits w xs)
digits_of w xs = filled_below w w 0 (bits 8 xs) (omega arith) (bits_below 8 xs)

module _ (w : ℕ) (lo : 1 ≤ w) where
  digits_bits : (xs : List ℕ) → (z : ℕ) × (z < w) × (bits w (to_digits w xs) ≡ bits 8 xs ++ replicate z 0)
  digits_bits xs = filled_bits w 0 w 0 (bits 8 xs) (omega arith) lo (bits_below 8 xs)

  digits_back : w ≤ 8 → (xs : List ℕ) → Octets xs → from_digits w (to_digits w xs) ≡ Some xs
  digits_back hi xs b = let (z, l, e) = digits_bits xs in rw e (octets_whole w z xs l hi b)

  pub digits_many : (xs : List ℕ) → (8 * length xs ≤ w * length (to_digits w xs)) × (w * length (to_digits w xs) < 8 * length xs + w)
  digits_many xs =
      let (z, l, e) = digits_bits xs in
      omega (arith, length-append (bits 8 xs) (replicate z 0), bits_length 8 xs, length-replicate {A = ℕ} z 0, bits_length w (to_digits w xs), ap length e)

-- the front that a test passes: characters of digits, before what it passes nothing of
span_chars : (f : ℕ → Bool) (char : ℕ → ℕ) (b : ℕ) (r : List ℕ) → all_below (λ d. f (char d)) b ≡ true → span f r ≡ record { front = []; rest = r } → (ds : List ℕ) → Below b ds
    → span f (map char ds ++ r) ≡ record { front = map char ds; rest = r }
span_chars f char b r t h [] k = h
span_chars f char b r t h (d ∷ ds) k = rw (at_each (λ d. f (char d)) b t d k.0, span_chars f char b r t h ds k.1)

span_none : (f : ℕ → Bool) (n c : ℕ) → f c ≡ false → span f (replicate n c) ≡ record { front = []; rest = replicate n c }
span_none f zero c h = refl
span_none f (suc n) c h = rw h

plain_many : (n c : ℕ) → plainly c ≡ true → Plainly (replicate n c)
plain_many zero c h = tt
plain_many (suc n) c h = (h, plain_many n c h)

-- padding is up to three of its character
padded : (P : List ℕ → Type 0) → ((k : ℕ) → k ≤ 3 → P (replicate k (code "="))) → (n : ℕ) → P (padding n)
padded P h n = h ((4 - n % 4) % 4) (omega arith)

module _ (xs : List ℕ) where
  base64_back : Octets xs → read_base64 (base64_text xs) ≡ Some xs
  base64_back b =
      let n : ℕ = length (to_digits 6 xs) in
      rw (
        span_chars not_padding base64_char 64 (padding n) refl (padded (λ r. span not_padding r ≡ record { front = []; rest = r }) (λ k l. span_none not_padding k 61 refl) n) (to_digits 6 xs) (digits_of 6 xs),
        length-map (to_digits 6 xs) base64_char,
        same_octets_lem (padding n),
        chars_back base64_char base64_value 64 refl (to_digits 6 xs) (digits_of 6 xs),
      )
      (digits_back 6 (omega arith) (omega arith) xs b)

  base64_length : (length xs ≤ length (base64_text xs)) × (length (base64_text xs) ≤ 2 * length xs + 3)
  base64_length =
      let n = digits_many 6 (omega arith) xs in
      let p = padded (λ r. length r ≤ 3) (λ k l. omega (arith, length-replicate {A = ℕ} k 61)) (length (to_digits 6 xs)) in
      omega (arith, length-append (map base64_char (to_digits 6 xs)) (padding (length (to_digits 6 xs))), length-map (to_digits 6 xs) base64_char)

  base64_plain : Plainly (base64_text xs)
  base64_plain =
      plain_append (map base64_char (to_digits 6 xs)) (padding (length (to_digits 6 xs))) (chars_plain base64_char 64 refl (to_digits 6 xs) (digits_of 6 xs))
      (padded Plainly (λ k l. plain_many k 61 refl) (length (to_digits 6 xs)))

  base32_back : Octets xs → 1 ≤ length xs → length xs ≤ 255 → read_base32 (base32_text xs) ≡ Some (with_count xs)
  base32_back b h l = rw (chars_back upper_digit (digit_value 32) 32 refl (to_digits 5 xs) (digits_of 5 xs), digits_back 5 (omega arith) (omega arith) xs b) (counted_some 1 xs h l)

  base32_length : (length xs ≤ length (base32_text xs)) × (length (base32_text xs) ≤ 2 * length xs)
  base32_length = omega (arith, digits_many 5 (omega arith) xs, length-map (to_digits 5 xs) upper_digit)

pub b64_laws : (c : List TypeName) → FieldLaws c b64
unfolding Back shown read_field
b64_laws c = record {
  back = λ o p b e r q t.
      all_back read_base64 (base64_text p) p r (omega (arith, base64_length p, end_some p e)) (base64_plain p) (base64_back p b) (end_some p e) (t refl);
  bound = λ p b e. omega (arith, (base64_length p).1);
  accepted = λ o h ts us p e. all_accepted read_base64 ts us p e;
}

pub b32_laws : (c : List TypeName) → FieldLaws c b32
unfolding Back shown read_field
b32_laws c = record {
  back = λ o p b e r q t. back p r (counted_octets 1 p e) b q;
  bound = λ p b e. omega (arith, (base32_length (drop 1 p)).1, length-drop 1 p);
  accepted = λ o h ts us p e. bare_accepted (count 1) read_base32 accepted ts us p e;
}
  where
    back : (p r : List ℕ) → Counted 1 p → Octets p → Parted r → one_bare read_base32 (scanned between (base32_text (drop 1 p) ++ r)) ≡ got p (scanned between r)
    back p r (is_counted xs c l) b q =
        let d : Octets (with_count xs) = rw c at b in
        rw c (bare_back read_base32 (base32_text xs) (with_count xs) r (omega (arith, (base32_length xs).0))
        (chars_plain upper_digit 32 refl (to_digits 5 xs) (digits_of 5 xs)) (base32_back xs d.1 l (omega (arith, d.0))) q)

    accepted : (t p : List ℕ) → read_base32 t ≡ Some p → taken (count 1) p ≡ took (length p)
    accepted t p e =
        let (ds, a, f) = bind_some (each_of (digit_value 32) t) (λ ds. from_digits 5 ds >>= λ xs. counted 1 xs) p e in
        let (xs, c, g) = bind_some (from_digits 5 ds) (λ xs. counted 1 xs) p f in
        counted_accepted 1 xs p g
