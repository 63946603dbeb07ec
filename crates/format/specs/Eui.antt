-- EUI48, EUI64: "six or eight pairs of hex digits, either case, with hyphens between; printed lower case".
use Rattle.std.specs.Prelude.{ℕ, List, map}
use Prim.Native.Char.{code}
use Rattle.std.specs.Prelude.{Option}
use Rattle.format.specs.Lists.{each_of, exactly, parted}
use Rattle.format.specs.Octets.{ascii, split_on}
use Rattle.format.specs.Digits.{digits, lower_digit}
use Rattle.format.specs.Hex.{hex_pair}

-- two digits for each octet, with hyphens between
abbrev pub eui_text : List ℕ → List ℕ
eui_text xs = parted (ascii "-") (map (λ x. map lower_digit (digits 16 2 x)) xs)

-- exactly w pairs
abbrev pub read_eui : ℕ → List ℕ → Option (List ℕ)
read_eui w t = exactly w (each_of hex_pair (split_on (code "-") t))
