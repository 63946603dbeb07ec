-- R: "2 octets; `TYPE` (case ignored) and a number to 65,535; prints without leading zeros".
use Rattle.std.specs.Prelude.{ℕ, cond, List, ◌++◌, take, drop}
use Rattle.std.specs.Prelude.{Option, None, Some}
use Rattle.format.specs.Lists.{◌>>=◌}
use Rattle.format.specs.Octets.{ascii, same_word}
use Rattle.format.specs.Digits.{digits}
use Rattle.format.specs.Number.{decimal, decimal_of, below}

-- as it prints
abbrev pub type_text : ℕ → List ℕ
type_text n = ascii "TYPE" ++ decimal n

-- as it reads
abbrev pub type_number : List ℕ → Option ℕ
type_number t = cond (same_word (take 4 t) (ascii "TYPE")) (below 65536 (decimal_of (drop 4 t))) None

-- as two octets
abbrev pub read_type : List ℕ → Option (List ℕ)
read_type t = type_number t >>= λ n. Some (digits 256 2 n)
