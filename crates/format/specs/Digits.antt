-- Numbers as digits in a base, the highest first: octets, decimal, hex, base 32, base 64 and bits alike.
use Rattle.std.specs.Prelude.{ℕ, zero, suc, ◌+◌, ◌*◌, ◌-◌, ◌/◌, ◌%◌, cond, List, [], ◌∷◌, ◌++◌, ltb}
use Prim.Native.Char.{code}
use Rattle.std.specs.Prelude.{Option, None}
use Rattle.format.specs.Lists.{provided}
use Rattle.format.specs.Octets.{digit, letter, lowered}

-- the w lowest digits of n in base b
abbrev pub digits : ℕ → ℕ → ℕ → List ℕ
digits b zero n = []
digits b (suc w) n = digits b w (n / b) ++ n % b ∷ []

-- the number whose digits in base b are those of a and then ds
abbrev pub number_from : ℕ → ℕ → List ℕ → ℕ
number_from b a [] = a
number_from b a (d ∷ ds) = number_from b (a * b + d) ds

-- the number whose digits in base b are ds
abbrev pub number : ℕ → List ℕ → ℕ
number b ds = number_from b 0 ds

-- without leading zeros; one digit at least stays
abbrev pub without_zeros : List ℕ → List ℕ
without_zeros [] = []
without_zeros (d ∷ []) = d ∷ []
without_zeros (zero ∷ e ∷ ds) = without_zeros (e ∷ ds)
without_zeros (suc d ∷ e ∷ ds) = suc d ∷ e ∷ ds

-- the characters of digits: 0 to 9, then letters
abbrev pub upper_digit : ℕ → ℕ
upper_digit d = cond (ltb d 10) (code "0" + d) (code "A" + (d - 10))

abbrev pub lower_digit : ℕ → ℕ
lower_digit d = cond (ltb d 10) (code "0" + d) (code "a" + (d - 10))

-- the digit of a character below base b, letters in either case
abbrev pub digit_value : ℕ → ℕ → Option ℕ
digit_value b x =
    cond (digit x) (provided (ltb (x - code "0") b) (x - code "0"))
    (cond (letter x) (provided (ltb (lowered x - code "a" + 10) b) (lowered x - code "a" + 10)) None)
