-- Numbers that were read, and their octets.
use Rattle.std.specs.Prelude.{ℕ, List}
use Rattle.std.specs.Prelude.{Option, Some}
use Rattle.format.specs.Lists.{◌>>=◌, or_else}
use Rattle.format.specs.Field.{Symbol}
use Rattle.format.specs.Digits.{digits}
use Rattle.format.specs.Number.{decimal_of, below, symbol_value}

-- w octets of a number
abbrev pub octets_of : ℕ → Option ℕ → Option (List ℕ)
octets_of w o = o >>= λ v. Some (digits 256 w v)

-- "a number in range or a symbol": the range ends before m
abbrev pub integer_of : ℕ → List Symbol → List ℕ → Option ℕ
integer_of m l t = or_else (below m (decimal_of t)) (symbol_value l t)
