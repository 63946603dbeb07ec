-- Octets as digits of w bits, for any width: whole groups, and a short one.
use Prim.Native.Nat.{ℕ, zero, suc, ◌+◌, ◌*◌, ◌-◌, ◌/◌, ◌^◌, ◌≤◌, ◌<◌}
use mathlib.Core.Path.{◌≡◌, refl, sym, ap, ◌∙◌}
use mathlib.Core.Bool.{Bool, true, false, cond}
use mathlib.Core.List.{List, [], ◌∷◌, ◌++◌, append_assoc, append-nil}
use native.Mathlib.Omega.{arith}
use native.Mathlib.Numerals.{add-one}
use native.Mathlib.Nat.{lt_of_lt_of_le, pow-le-pow_right, pow-suc, one-le-pow, div-eq_of_lt-le}
use lib.ListN.{length, get_or, take, drop, replicate, length-append, length-replicate}
use lib.Seq.{take-length}
use lib.Dec.{eqb}
use borrow.Author.Tests.{eq-eqb}
use Rattle.format.specs.Octets.{Below}
use Rattle.format.specs.Digits.{digits, number_from, number}
use Rattle.format.specs.Base.{bits, filled, to_digits}
use Rattle.format.proofs.Digits.{digits_below, digits_length, number_digits, number_append}
use Rattle.format.proofs.Base.{bits_below, bits_length, digits_many}
use Rattle.format.proofs.Lists.{drop_next}
use Rattle.digits.proofs.Bits.{flat_append}
use Rattle.digits.proofs.Bits.{bits_after, regrouped}

-- the next octet of a number that is read from bits
pub next_octet : (xs : List ℕ) (v i k : ℕ) → i < length xs → get_or xs i 0 < 256 → number_from 2 v (bits 8 (drop i xs)) ≡ k
    → number_from 2 (v * 256 + get_or xs i 0) (bits 8 (drop (i + 1) xs)) ≡ k
next_octet xs v i k h b q =
    let x : ℕ = get_or xs i 0 in
    ap (λ y. number_from 2 y (bits 8 (drop (i + 1) xs))) (sym (bits_after 8 v x b))
    ∙ sym (ap (λ t. number_from 2 v (bits 8 t)) (drop_next xs i h) ∙ number_append 2 v (digits 2 8 x) (bits 8 (drop (i + 1) xs)))
    ∙ q

-- the number of a few octets leaves room for another octet
pub few_octets : (j v : ℕ) → j < 5 → v < 256 ^ j → v < 2 ^ 32
few_octets j v h l = lt_of_lt_of_le l (let q : j ≤ 4 = omega arith in pow-le-pow_right (omega arith) q)

pub more_octets_lem : (j v b : ℕ) → v < 256 ^ j → b < 256 → v * 256 + b < 256 ^ (j + 1)
more_octets_lem j v b h l = rw (add-one j, pow-suc 256 j) (omega arith)

-- the bits of digits give those digits
filled_digit : (w v : ℕ) (bs r : List ℕ) → 1 ≤ length bs → filled w (length bs) v (bs ++ r) ≡ number_from 2 v bs ∷ filled w w 0 r
filled_digit w v [] r h = absurd (omega arith)
filled_digit w v (b ∷ []) r h = refl
filled_digit w v (b ∷ c ∷ bs) r h = filled_digit w (v * 2 + b) (c ∷ bs) r (omega arith)

module _ (w : ℕ) (some : 0 < w) where
  filled_digits : (ds r : List ℕ) → Below (2 ^ w) ds → filled w w 0 (bits w ds ++ r) ≡ ds ++ filled w w 0 r
  filled_digits [] r h = refl
  filled_digits (d ∷ ds) r h =
      let e : length (digits 2 w d) ≡ w = digits_length 2 w d in
      let q : number 2 (digits 2 w d) ≡ d = number_digits 2 w d (omega arith) h.0 in
      ap (filled w w 0) (append_assoc (digits 2 w d) (bits w ds) r)
      ∙ ap (λ m. filled w m 0 (digits 2 w d ++ (bits w ds ++ r))) (sym e)
      ∙ filled_digit w 0 (digits 2 w d) (bits w ds ++ r) (omega arith)
      ∙ ap (λ x. x ∷ filled w w 0 (bits w ds ++ r)) q
      ∙ ap (λ t. d ∷ t) (filled_digits ds r h.1)

  group_digits : (k : ℕ) (xs r : List ℕ) → w * k ≡ 8 * length xs → to_digits w (xs ++ r) ≡ digits (2 ^ w) k (number 2 (bits 8 xs)) ++ to_digits w r
  group_digits k xs r e =
      let v : ℕ = number 2 (bits 8 xs) in
      ap (filled w w 0) (flat_append (digits 2 8) xs r ∙ ap (λ bs. bs ++ bits 8 r) (sym (regrouped w k (bits 8 xs) (bits_below 8 xs) (bits_length 8 xs ∙ sym e))))
      ∙ filled_digits (digits (2 ^ w) k v) (bits 8 r) (digits_below (2 ^ w) k v (one-le-pow w 2 (omega arith)))

  pub no_digits : to_digits w [] ≡ []
  no_digits = rw (eq-eqb w w refl)

  -- octets that make whole digits, alone and before others
  pub whole_digits : (k : ℕ) (xs : List ℕ) → w * k ≡ 8 * length xs → to_digits w xs ≡ digits (2 ^ w) k (number 2 (bits 8 xs))
  whole_digits k xs e =
      let ds : List ℕ = digits (2 ^ w) k (number 2 (bits 8 xs)) in
      ap (to_digits w) (sym (append-nil xs)) ∙ group_digits k xs [] e ∙ ap (λ t. ds ++ t) no_digits ∙ append-nil ds

  pub digits_append : (k : ℕ) (xs r : List ℕ) → w * k ≡ 8 * length xs → to_digits w (xs ++ r) ≡ to_digits w xs ++ to_digits w r
  digits_append k xs r e = group_digits k xs r e ∙ ap (λ t. t ++ to_digits w r) (sym (whole_digits k xs e))

  -- how many digits octets make
  pub digit_count : (xs : List ℕ) → length (to_digits w xs) ≡ (8 * length xs + w - 1) / w
  digit_count xs =
      let l : ℕ = length (to_digits w xs) in
      let d = digits_many w some xs in
      sym (div-eq_of_lt-le {k = l} w {m = 8 * length xs + w - 1} (omega arith) (omega arith))

  -- zeros after the bits of octets add digits and change none
  first_zeros : (m v z : ℕ) → 0 < m → m ≤ z → take 1 (filled w m v (replicate z 0)) ≡ v * 2 ^ m ∷ []
  first_zeros zero v z h l = absurd (omega arith)
  first_zeros (suc m) v zero h l = absurd (omega arith)
  first_zeros (suc zero) v (suc z) h l = ap (λ x. x ∷ []) (omega arith)
  first_zeros (suc (suc m)) v (suc z) h l =
      let e : (v * 2 + 0) * 2 ^ suc m ≡ v * 2 ^ suc (suc m) = rw (pow-suc 2 (suc m)) (omega arith) in
      first_zeros (suc m) (v * 2 + 0) z (omega arith) (omega arith) ∙ ap (λ x. x ∷ []) e

  filled_front : (m v z : ℕ) (bs : List ℕ) → 0 < m → m ≤ w → w ≤ z → take (length (filled w m v bs)) (filled w m v (bs ++ replicate z 0)) ≡ filled w m v bs
  filled_front m v z [] h l f = by (eqb m w)
    where
      by : (b : Bool) → take (length (cond b [] (v * 2 ^ m ∷ []))) (filled w m v (replicate z 0)) ≡ cond b [] (v * 2 ^ m ∷ [])
      by true = refl
      by false = first_zeros m v z h (omega arith)
  filled_front zero v z (b ∷ bs) h l f = absurd (omega arith)
  filled_front (suc zero) v z (b ∷ bs) h l f = ap (λ t. (v * 2 + b) ∷ t) (filled_front w 0 z bs (omega arith) (omega arith) f)
  filled_front (suc (suc m)) v z (b ∷ bs) h l f = filled_front (suc m) (v * 2 + b) z bs (omega arith) (omega arith) f

  zero_bits : (q : ℕ) → bits 8 (replicate q 0) ≡ replicate (8 * q) 0
  zero_bits zero = refl
  zero_bits (suc q) =
      let e : 8 * suc q ≡ suc (suc (suc (suc (suc (suc (suc (suc (8 * q)))))))) = omega arith in
      rw (e, zero_bits q)

  front_digits : (q : ℕ) (xs : List ℕ) → w ≤ 8 → take (length (to_digits w xs)) (to_digits w (xs ++ replicate q 0)) ≡ to_digits w xs
  front_digits zero xs h = rw (append-nil xs) (take-length (to_digits w xs))
  front_digits (suc q) xs h =
      rw (flat_append (digits 2 8) xs (replicate (suc q) 0), zero_bits (suc q)) (filled_front w 0 (8 * suc q) (bits 8 xs) some (omega arith) (omega arith))

  -- a short group has the first digits of the group that is filled up with zeros
  pub short_digits : (k q : ℕ) (xs : List ℕ) → w ≤ 8 → w * k ≡ 8 * (length xs + q)
      → take ((8 * length xs + w - 1) / w) (digits (2 ^ w) k (number 2 (bits 8 (xs ++ replicate q 0)))) ≡ to_digits w xs
  short_digits k q xs h e =
      let ys : List ℕ = xs ++ replicate q 0 in
      let l : w * k ≡ 8 * length ys = omega (arith, length-append xs (replicate q 0), length-replicate {A = ℕ} q 0) in
      rw (← whole_digits k ys l, ← digit_count xs) (front_digits q xs h)
