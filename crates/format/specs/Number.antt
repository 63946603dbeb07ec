-- Decimal numbers, and the integers I1, I2, I4.
-- Wire: "big-endian, 1, 2, 4 octets".
use Rattle.std.specs.Prelude.{ℕ, ◌^◌, cond, List, [], ◌∷◌, map, length, ltb, eqb}
use Rattle.std.specs.Prelude.{Option, None, Some}
use Rattle.format.specs.Lists.{◌>>=◌, provided, or_else, each_of}
use Rattle.format.specs.Octets.{in_range, same_word}
use Rattle.format.specs.Field.{Symbol}
use Rattle.format.specs.Digits.{digits, number, without_zeros, upper_digit, digit_value}

-- w decimal digits
abbrev pub fixed_decimal : ℕ → ℕ → List ℕ
fixed_decimal w n = map upper_digit (digits 10 w n)

-- "decimal without leading zeros", for numbers of up to ten digits
abbrev pub decimal : ℕ → List ℕ
decimal n = map upper_digit (without_zeros (digits 10 10 n))

-- "Decimal numbers have 1 to 10 digits, leading zeros allowed"
abbrev pub decimal_of : List ℕ → Option ℕ
decimal_of t = cond (in_range 1 10 (length t)) (each_of (digit_value 10) t >>= λ ds. Some (number 10 ds)) None

-- a number below m
abbrev pub below : ℕ → Option ℕ → Option ℕ
below m o = o >>= λ v. provided (ltb v m) v

-- "Prints the first listed symbol with that number, else decimal"
abbrev pub symbol_or_decimal : List Symbol → ℕ → List ℕ
symbol_or_decimal [] n = decimal n
symbol_or_decimal (s ∷ ss) n = cond (eqb s.value n) s.spelling.octets (symbol_or_decimal ss n)

-- "a symbol (case ignored)"
abbrev pub symbol_value : List Symbol → List ℕ → Option ℕ
symbol_value [] t = None
symbol_value (s ∷ ss) t = cond (same_word s.spelling.octets t) (Some s.value) (symbol_value ss t)

-- "a number in range or a symbol": w octets
abbrev pub read_integer : ℕ → List Symbol → List ℕ → Option (List ℕ)
read_integer w l t = or_else (below (256 ^ w) (decimal_of t)) (symbol_value l t) >>= λ v. Some (digits 256 w v)
