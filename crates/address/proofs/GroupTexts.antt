-- A group of four hex digits, written without leading zeros.
use Prim.Native.Nat.{ℕ, zero, suc, ◌/◌, ◌%◌, ◌≤◌, ◌<◌}
use mathlib.Core.Path.{◌≡◌, refl, sym, ap, ◌∙◌}
use mathlib.Core.List.{List, [], ◌∷◌, ◌++◌, map}
use native.Mathlib.Omega.{arith}
use lib.ListN.{length, length-map}
use Rattle.format.specs.Digits.{digits, without_zeros, lower_digit}
use Rattle.format.specs.Address.{group_text}
use Rattle.format.proofs.Digits.{digits_length, zeros_length}

-- zeros in front of a digit go
keeps_one : (a b d e : ℕ) → a ≡ 0 → b ≡ 0 → d ≡ 0 → without_zeros (a ∷ b ∷ d ∷ e ∷ []) ≡ e ∷ []
keeps_one a b d e p q r = rw (p, q, r)

keeps_two : (a b d e : ℕ) → a ≡ 0 → b ≡ 0 → 1 ≤ d → without_zeros (a ∷ b ∷ d ∷ e ∷ []) ≡ d ∷ e ∷ []
keeps_two a b zero e p q h = absurd (omega arith)
keeps_two a b (suc d) e p q h = rw (p, q)

keeps_three : (a b d e : ℕ) → a ≡ 0 → 1 ≤ b → without_zeros (a ∷ b ∷ d ∷ e ∷ []) ≡ b ∷ d ∷ e ∷ []
keeps_three a zero d e p h = absurd (omega arith)
keeps_three a (suc b) d e p h = rw p

-- four digits stay if the first is no zero
keeps_four : (a b d e : ℕ) → 1 ≤ a → without_zeros (a ∷ b ∷ d ∷ e ∷ []) ≡ a ∷ b ∷ d ∷ e ∷ []
keeps_four zero b d e h = absurd (omega arith)
keeps_four (suc a) b d e h = refl

module _ (v : ℕ) where
  pub one_digit_lem : v < 16 → lower_digit v ∷ [] ≡ group_text v
  one_digit_lem h =
      let a : v / 16 / 16 / 16 % 16 ≡ 0 = omega arith in
      let b : v / 16 / 16 % 16 ≡ 0 = omega arith in
      let d : v / 16 % 16 ≡ 0 = omega arith in
      let e : v % 16 ≡ v = omega arith in
      sym (ap (map lower_digit) (keeps_one (v / 16 / 16 / 16 % 16) (v / 16 / 16 % 16) (v / 16 % 16) (v % 16) a b d ∙ ap (λ (x : ℕ). x ∷ []) e))

  pub two_digits : 16 ≤ v → v < 256 → map lower_digit (digits 16 2 v) ≡ group_text v
  two_digits g h =
      let a : v / 16 / 16 / 16 % 16 ≡ 0 = omega arith in
      let b : v / 16 / 16 % 16 ≡ 0 = omega arith in
      let d : 1 ≤ v / 16 % 16 = omega arith in
      sym (ap (map lower_digit) (keeps_two (v / 16 / 16 / 16 % 16) (v / 16 / 16 % 16) (v / 16 % 16) (v % 16) a b d))

  -- the lower two digits
  low : digits 16 2 (v % 256) ≡ v / 16 % 16 ∷ v % 16 ∷ []
  low =
      let a : v % 256 / 16 % 16 ≡ v / 16 % 16 = omega arith in
      let b : v % 256 % 16 ≡ v % 16 = omega arith in
      rw (a, b)

  pub three_digits : 256 ≤ v → v < 4096 → (lower_digit (v / 256) ∷ []) ++ map lower_digit (digits 16 2 (v % 256)) ≡ group_text v
  three_digits g h =
      let a : v / 16 / 16 / 16 % 16 ≡ 0 = omega arith in
      let b : 1 ≤ v / 16 / 16 % 16 = omega arith in
      let d : v / 16 / 16 % 16 ≡ v / 256 = omega arith in
      ap (λ (ds : List ℕ). lower_digit (v / 256) ∷ map lower_digit ds) low
      ∙ ap (λ (x : ℕ). lower_digit x ∷ map lower_digit (v / 16 % 16 ∷ v % 16 ∷ [])) (sym d)
      ∙ sym (ap (map lower_digit) (keeps_three (v / 16 / 16 / 16 % 16) (v / 16 / 16 % 16) (v / 16 % 16) (v % 16) a b))

  pub four_digits : 4096 ≤ v → v < 65536 → map lower_digit (digits 16 2 (v / 256)) ++ map lower_digit (digits 16 2 (v % 256)) ≡ group_text v
  four_digits g h =
      let a : 1 ≤ v / 16 / 16 / 16 % 16 = omega arith in
      let b : v / 16 / 16 / 16 % 16 ≡ v / 256 / 16 % 16 = omega arith in
      let d : v / 16 / 16 % 16 ≡ v / 256 % 16 = omega arith in
      ap (λ (ds : List ℕ). map lower_digit (digits 16 2 (v / 256)) ++ map lower_digit ds) low
      ∙ ap (λ (x : ℕ). lower_digit x ∷ map lower_digit (v / 256 % 16 ∷ v / 16 % 16 ∷ v % 16 ∷ [])) (sym b)
      ∙ ap (λ (x : ℕ). lower_digit (v / 16 / 16 / 16 % 16) ∷ lower_digit x ∷ map lower_digit (v / 16 % 16 ∷ v % 16 ∷ [])) (sym d)
      ∙ sym (ap (map lower_digit) (keeps_four (v / 16 / 16 / 16 % 16) (v / 16 / 16 % 16) (v / 16 % 16) (v % 16) a))

pub group_short : (g : ℕ) → length (group_text g) ≤ 4
group_short g =
    let l = zeros_length (digits 16 4 g) (omega (arith, digits_length 16 4 g)) in
    omega (arith, length-map (without_zeros (digits 16 4 g)) lower_digit, digits_length 16 4 g)
