-- A decimal number read digit by digit.
use Prim.Native.Nat.{ℕ, suc, ◌+◌, ◌*◌, ◌-◌, ◌^◌, ◌≤◌, ◌<◌}
use mathlib.Core.Path.{◌≡◌, refl, sym, ◌∙◌}
use mathlib.Core.Bool.{Bool, true, false, cond}
use mathlib.Core.List.{List, [], ◌∷◌}
use Rattle.std.specs.Prelude.{Option, None, Some}
use native.Mathlib.Omega.{arith}
use native.Mathlib.Numerals.{add-one}
use native.Mathlib.Nat.{pow-suc, pow-le-pow_right}
use lib.ListN.{length}
use lib.Dec.{ltb, lit<}
use borrow.Author.Tests.{le-leb, lt-leb, lt-ltb, le-ltb}
use Rattle.format.specs.Lists.{◌>>=◌, provided, cons_both, each_of}
use Rattle.format.specs.Octets.{digit, letter, lowered}
use Rattle.format.specs.Digits.{number_from, digit_value}
use Rattle.format.specs.Number.{decimal_of}

-- the number, in a base, of digits that are v so far and go on with these
unfoldable pub value_in : ℕ → ℕ → List ℕ → Option ℕ
value_in base v [] = Some v
value_in base v (x ∷ xs) = digit_value base x >>= λ d. value_in base (v * base + d) xs

pub value_each : (base v : ℕ) (xs : List ℕ) → value_in base v xs ≡ (each_of (digit_value base) xs >>= λ ds. Some (number_from base v ds))
unfolding value_in
value_each base v [] = refl
value_each base v (x ∷ xs) = by (digit_value base x) (λ w. value_each base w xs)
  where
    on : (d : ℕ) (o : Option (List ℕ)) → (o >>= λ ds. Some (number_from base (v * base + d) ds)) ≡ (cons_both (Some d) o >>= λ ds. Some (number_from base v ds))
    on d None = refl
    on d (Some ds) = refl

    by : (o : Option ℕ) → ((w : ℕ) → value_in base w xs ≡ (each_of (digit_value base) xs >>= λ ds. Some (number_from base w ds)))
        → (o >>= λ d. value_in base (v * base + d) xs) ≡ (cons_both o (each_of (digit_value base) xs) >>= λ ds. Some (number_from base v ds))
    by None ih = refl
    by (Some d) ih = ih (v * base + d) ∙ on d (each_of (digit_value base) xs)

-- the same in decimal
abbrev pub value_from : ℕ → List ℕ → Option ℕ
value_from v xs = value_in 10 v xs

-- 1 to 10 octets have that value; none, or more than 10, have none
pub decimal_value : (s : List ℕ) → 1 ≤ length s → length s ≤ 10 → decimal_of s ≡ value_from 0 s
decimal_value s h k = rw (le-leb 1 (length s) h, le-leb (length s) 10 k) (sym (value_each 10 0 s))

-- the next octet is a digit; or it is not, and there is no value
pub digit_on : (v x : ℕ) (xs : List ℕ) → 48 ≤ x → x ≤ 57 → value_from v (x ∷ xs) ≡ value_from (v * 10 + (x - 48)) xs
unfolding value_in
digit_on v x xs h l = let k : x - 48 < 10 = omega arith in rw (le-leb 48 x h, le-leb x 57 l, lt-ltb (x - 48) 10 k)

pub not_digit : (v x : ℕ) (xs : List ℕ) → digit x ≡ false → value_from v (x ∷ xs) ≡ None
unfolding value_in
not_digit v x xs h = rw h (by (letter x))
  where
    by : (b : Bool) → (cond b (provided (ltb (lowered x - 97 + 10) 10) (lowered x - 97 + 10)) None >>= λ d. value_from (v * 10 + d) xs) ≡ None
    by true = rw (le-ltb (lowered x - 97 + 10) 10 (omega arith))
    by false = refl

pub digit_low : (v x : ℕ) (xs : List ℕ) → x < 48 → value_from v (x ∷ xs) ≡ None
digit_low v x xs h = not_digit v x xs (rw (lt-leb 48 x h))

pub digit_high : (v x : ℕ) (xs : List ℕ) → 48 ≤ x → 57 < x → value_from v (x ∷ xs) ≡ None
digit_high v x xs l h = not_digit v x xs (rw (le-leb 48 x l, lt-leb x 57 h))

-- the value so far fits into ten digits
pub digit_more : (v i j d : ℕ) → i ≤ j → v < 10 ^ (j - i) → d < 10 → v * 10 + d < 10 ^ (j + 1 - i)
digit_more v i j d l h k = let e : j + 1 - i ≡ suc (j - i) = omega arith in rw (e, pow-suc 10 (j - i)) (omega arith)

pub one_more_digit : (v n d : ℕ) → v < 10 ^ n → d < 10 → v * 10 + d < 10 ^ (n + 1)
one_more_digit v n d h k = rw (add-one, pow-suc 10 n) (omega arith)

pub digits_fit : (v n : ℕ) → n < 10 → v < 10 ^ n → v < 10 ^ 9
digits_fit v n h k = omega (arith, pow-le-pow_right {n = 10} (lit< tt) {i = n} {j = 9} (omega arith))

pub nothing_yet : (i : ℕ) → 0 < 10 ^ (i - i)
nothing_yet i = let e : i - i ≡ 0 = omega arith in rw e (omega arith)

pub nothing_left : (v : ℕ) → value_from v [] ≡ Some v
unfolding value_in
nothing_left v = refl
