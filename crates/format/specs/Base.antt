-- B32 and B64: octets as digits of 5 and of 6 bits.
use Rattle.std.specs.Prelude.{ℕ, zero, suc, ◌+◌, ◌*◌, ◌-◌, ◌%◌, ◌^◌, Bool, not, cond, ◌&&◌, List, [], ◌∷◌, ◌++◌, map, length, replicate, ltb, eqb}
use Prim.Native.Char.{code}
use Rattle.std.specs.Prelude.{Option, None, Some}
use Rattle.format.specs.Lists.{◌>>=◌, provided, cons_both, each_of, flat_map, Spanned, span}
use Rattle.format.specs.Octets.{in_range, digit, same_octets}
use Rattle.format.specs.Digits.{digits, upper_digit, digit_value}
use Rattle.format.specs.Text.{counted}

-- the bits of digits of w bits each
abbrev pub bits : ℕ → List ℕ → List ℕ
bits w ds = flat_map (digits 2 w) ds

-- Bits as digits of w bits, the last filled with zeros: m more bits are wanted by the digit begun, which is v so far.
abbrev pub filled : ℕ → ℕ → ℕ → List ℕ → List ℕ
filled w m v [] = cond (eqb m w) [] (v * 2 ^ m ∷ [])
filled w zero v (b ∷ bs) = []
filled w (suc zero) v (b ∷ bs) = (v * 2 + b) ∷ filled w w 0 bs
filled w (suc (suc m)) v (b ∷ bs) = filled w (suc m) (v * 2 + b) bs

-- Bits as octets, "under five left-over bits, all zero": fewer than w are left over. m more bits are wanted by the octet begun.
abbrev pub whole_octets : ℕ → ℕ → ℕ → List ℕ → Option (List ℕ)
whole_octets w m v [] = provided (ltb (8 - m) w && eqb v 0) []
whole_octets w zero v (b ∷ bs) = None
whole_octets w (suc zero) v (b ∷ bs) = cons_both (Some (v * 2 + b)) (whole_octets w 8 0 bs)
whole_octets w (suc (suc m)) v (b ∷ bs) = whole_octets w (suc m) (v * 2 + b) bs

-- octets as digits of w bits, and back
abbrev pub to_digits : ℕ → List ℕ → List ℕ
to_digits w xs = filled w w 0 (bits 8 xs)

abbrev pub from_digits : ℕ → List ℕ → Option (List ℕ)
from_digits w ds = whole_octets w 8 0 (bits w ds)

-- "RFC 5155's extended hex alphabet, no padding, ..; either case read, upper printed"
abbrev pub base32_text : List ℕ → List ℕ
base32_text xs = map upper_digit (to_digits 5 xs)

abbrev pub read_base32 : List ℕ → Option (List ℕ)
read_base32 t = do
  ds ← each_of (digit_value 32) t
  xs ← from_digits 5 ds
  counted 1 xs

-- RFC 4648's base 64 alphabet
abbrev pub base64_char : ℕ → ℕ
base64_char d =
    cond (ltb d 26) (code "A" + d) (cond (ltb d 52) (code "a" + (d - 26)) (cond (ltb d 62) (code "0" + (d - 52)) (cond (eqb d 62) (code "+") (code "/"))))

-- and back
abbrev pub base64_value : ℕ → Option ℕ
base64_value x =
    cond (in_range (code "A") (code "Z") x) (Some (x - code "A"))
    (cond (in_range (code "a") (code "z") x) (Some (x - code "a" + 26))
    (cond (digit x) (Some (x - code "0" + 52)) (cond (eqb x (code "+")) (Some 62) (provided (eqb x (code "/")) 63))))

-- "padding required": up to a multiple of four characters
abbrev pub padding : ℕ → List ℕ
padding n = replicate ((4 - n % 4) % 4) (code "=")

-- the digits, and the padding
abbrev pub base64_text : List ℕ → List ℕ
base64_text xs = map base64_char (to_digits 6 xs) ++ padding (length (to_digits 6 xs))

-- a character that is no padding
abbrev pub not_padding : ℕ → Bool
not_padding x = not (eqb x (code "="))

-- the padding is exactly what the digits need
abbrev pub unpadded : Spanned → Option (List ℕ)
unpadded s = cond (same_octets s.rest (padding (length s.front))) (each_of base64_value s.front >>= from_digits 6) None

-- the digits end where the padding begins
abbrev pub read_base64 : List ℕ → Option (List ℕ)
read_base64 t = unpadded (span not_padding t)
