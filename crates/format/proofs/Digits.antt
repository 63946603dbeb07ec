-- Laws of digits in a base, once for every base and width.
use Prim.Native.Nat.{ℕ, zero, suc, ◌+◌, ◌*◌, ◌/◌, ◌%◌, ◌^◌, ◌≤◌, ◌<◌}
use mathlib.Core.Path.{◌≡◌, refl, ap, ◌∙◌}
use mathlib.Core.Bool.{Bool, true, false}
use mathlib.Core.List.{List, [], ◌∷◌, ◌++◌, map, append_assoc, append-nil}
use Rattle.std.specs.Prelude.{Option, None, Some}
use native.Mathlib.Omega.{arith}
use native.Mathlib.Nat.{mod-lt, zero-add, div-add-mod', div-lt_iff_lt-mul, mul-add-div_right, mul-add-mod_self_right, mod-eq_of_lt, div-eq_of_lt, pow-suc, pow-zero, add-zero, mul-le-mul_right}
use lib.ListN.{length, length-append, length-map}
use lib.Dec.{eqb}
use borrow.Author.Tests.{le-leb, eqb-true}
use Rattle.format.specs.Lists.{each_of}
use Rattle.format.specs.Octets.{Below}
use Rattle.format.specs.Digits.{digits, number_from, number, without_zeros, upper_digit, digit_value}
use Rattle.format.specs.Number.{decimal, decimal_of}
use Rattle.format.proofs.Lists.{below_append}
use Rattle.format.proofs.Finite.{all_below, at_each}

pub digits_below : (b w n : ℕ) → 0 < b → Below b (digits b w n)
digits_below b zero n h = tt
digits_below b (suc w) n h = below_append b (digits b w (n / b)) (n % b ∷ []) (digits_below b w (n / b) h) (mod-lt n h, tt)

pub digits_length : (b w n : ℕ) → length (digits b w n) ≡ w
digits_length b zero n = refl
digits_length b (suc w) n = length-append (digits b w (n / b)) (n % b ∷ []) ∙ ap (λ k. k + 1) (digits_length b w (n / b)) ∙ omega arith

number_snoc : (b a : ℕ) (ds : List ℕ) (d : ℕ) → number_from b a (ds ++ d ∷ []) ≡ number_from b a ds * b + d
number_snoc b a [] d = refl
number_snoc b a (e ∷ ds) d = number_snoc b (a * b + e) ds d

-- a number of w digits is read back
pub number_digits : (b w n : ℕ) → 0 < b → n < b ^ w → number b (digits b w n) ≡ n
number_digits b zero n h k = omega (arith, pow-zero b)
number_digits b (suc w) n h k =
    let q : n / b < b ^ w = (div-lt_iff_lt-mul h).1 (rw pow-suc at k) in
    rw (number_snoc b 0 (digits b w (n / b)) (n % b), number_digits b w (n / b) h q, div-add-mod' n b)

digits_number_from : (b w a : ℕ) (ds : List ℕ) → Below b ds → digits b (w + length ds) (number_from b a ds) ≡ digits b w a ++ ds
digits_number_from b w a [] h = rw (add-zero w, append-nil (digits b w a))
digits_number_from b w a (d ∷ ds) h =
    let pos : 0 < b = omega arith in
    let e : w + suc (length ds) ≡ suc w + length ds = omega arith in
    let q : (a * b + d) / b ≡ a = mul-add-div_right pos a d ∙ ap (λ k. a + k) (div-eq_of_lt h.0) ∙ add-zero a in
    let r : (a * b + d) % b ≡ d = mul-add-mod_self_right a b d ∙ mod-eq_of_lt h.0 in
    rw (e, digits_number_from b (suc w) (a * b + d) ds h.1, q, r, append_assoc)

-- digits are given back
pub digits_number : (b : ℕ) (ds : List ℕ) → Below b ds → digits b (length ds) (number b ds) ≡ ds
digits_number b ds h = rw (← (zero-add (length ds))) (digits_number_from b 0 0 ds h)

pub zeros_number : (b : ℕ) (ds : List ℕ) → number b (without_zeros ds) ≡ number b ds
zeros_number b [] = refl
zeros_number b (d ∷ []) = refl
zeros_number b (zero ∷ e ∷ ds) = zeros_number b (e ∷ ds) ∙ ap (λ a. number_from b a (e ∷ ds)) (omega arith)
zeros_number b (suc d ∷ e ∷ ds) = refl

pub zeros_below : (b : ℕ) (ds : List ℕ) → Below b ds → Below b (without_zeros ds)
zeros_below b [] h = tt
zeros_below b (d ∷ []) h = h
zeros_below b (zero ∷ e ∷ ds) h = zeros_below b (e ∷ ds) h.1
zeros_below b (suc d ∷ e ∷ ds) h = h

pub zeros_length : (ds : List ℕ) → 1 ≤ length ds → (1 ≤ length (without_zeros ds)) × (length (without_zeros ds) ≤ length ds)
zeros_length [] h = absurd (omega arith)
zeros_length (d ∷ []) h = (omega arith, omega arith)
zeros_length (zero ∷ e ∷ ds) h = let r = zeros_length (e ∷ ds) (omega arith) in (r.0, omega arith)
zeros_length (suc d ∷ e ∷ ds) h = (omega arith, omega arith)

-- digits written by characters that read back, by one computed test of all of them
abbrev pub gives_back : Option ℕ → ℕ → Bool
gives_back None d = false
gives_back (Some x) d = eqb x d

pub gives_some : (v : Option ℕ) (d : ℕ) → gives_back v d ≡ true → v ≡ Some d
gives_some None d h = cc
gives_some (Some x) d h = ap Some (eqb-true x d h)

module _ (char : ℕ → ℕ) (value : ℕ → Option ℕ) (b : ℕ) (t : all_below (λ d. gives_back (value (char d)) d) b ≡ true) where
  char_back : (d : ℕ) → d < b → value (char d) ≡ Some d
  char_back d h = gives_some (value (char d)) d (at_each (λ d. gives_back (value (char d)) d) b t d h)

  pub chars_back : (ds : List ℕ) → Below b ds → each_of value (map char ds) ≡ Some ds
  chars_back [] h = refl
  chars_back (d ∷ ds) h = rw (char_back d h.0, chars_back ds h.1)

pub decimal_back : (n : ℕ) → n < 10 ^ 10 → decimal_of (decimal n) ≡ Some n
decimal_back n h =
    let l = zeros_length (digits 10 10 n) (omega (arith, digits_length 10 10 n)) in
    let m : length (decimal n) ≡ length (without_zeros (digits 10 10 n)) = length-map (without_zeros (digits 10 10 n)) upper_digit in
    rw (
      le-leb 1 (length (decimal n)) (omega arith),
      le-leb (length (decimal n)) 10 (omega (arith, digits_length 10 10 n)),
      chars_back upper_digit (digit_value 10) 10 refl (without_zeros (digits 10 10 n)) (zeros_below 10 (digits 10 10 n) (digits_below 10 10 n (omega arith))),
    )
    (ap Some (zeros_number 10 (digits 10 10 n) ∙ number_digits 10 10 n (omega arith) h))

number_from_bound : (b a : ℕ) (ds : List ℕ) → Below b ds → number_from b a ds < suc a * b ^ length ds
number_from_bound b a [] h = rw (pow-zero b) (omega arith)
number_from_bound b a (d ∷ ds) h =
    let r : number_from b (a * b + d) ds < suc (a * b + d) * b ^ length ds = number_from_bound b (a * b + d) ds h.1 in
    let l : suc (a * b + d) ≤ suc a * b = omega arith in
    let m : suc (a * b + d) * b ^ length ds ≤ suc a * b * b ^ length ds = mul-le-mul_right (b ^ length ds) l in
    rw (pow-suc b (length ds)) (omega arith)

pub number_bound : (b : ℕ) (ds : List ℕ) → Below b ds → number b ds < b ^ length ds
number_bound b ds h = omega (arith, number_from_bound b 0 ds h)

-- the number of digits one after another
pub number_append : (b a : ℕ) (ds es : List ℕ) → number_from b a (ds ++ es) ≡ number_from b (number_from b a ds) es
number_append b a [] es = refl
number_append b a (d ∷ ds) es = number_append b (a * b + d) ds es
