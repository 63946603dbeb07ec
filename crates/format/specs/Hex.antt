-- X and X[C]: "even number of digits"; "read either case and print upper".
use Rattle.std.specs.Prelude.{ℕ, cond, List, [], ◌∷◌, map, length, eqb}
use Rattle.std.specs.Prelude.{Option, None, Some}
use Rattle.format.specs.Lists.{◌>>=◌, cons_both, each_of, flat_map}
use Rattle.format.specs.Octets.{ascii, same_octets}
use Rattle.format.specs.Digits.{digits, number, upper_digit, digit_value}
use Rattle.format.specs.Text.{with_count, counted}

-- two digits for each octet
abbrev pub hex_text : List ℕ → List ℕ
hex_text xs = flat_map (λ x. map upper_digit (digits 16 2 x)) xs

-- an octet of two hex digits
abbrev pub hex_pair : List ℕ → Option ℕ
hex_pair t = cond (eqb (length t) 2) (each_of (digit_value 16) t >>= λ ds. Some (number 16 ds)) None

-- "even number of digits"
abbrev pub from_hex : List ℕ → Option (List ℕ)
from_hex [] = Some []
from_hex (a ∷ []) = None
from_hex (a ∷ b ∷ t) = cons_both (hex_pair (a ∷ b ∷ [])) (from_hex t)

-- X[C]: "count 0 is accepted, prints `-`" (document 02, 1)
abbrev pub counted_hex_text : List ℕ → List ℕ
counted_hex_text [] = ascii "-"
counted_hex_text (x ∷ xs) = hex_text (x ∷ xs)

-- "and `-` reads back as count 0; a `-` next to digits stays 9" (document 02, 1); digits alone: "count 1 to 255"
abbrev pub read_counted_hex : List ℕ → Option (List ℕ)
read_counted_hex t = cond (same_octets t (ascii "-")) (Some (with_count [])) (from_hex t >>= counted 1)
