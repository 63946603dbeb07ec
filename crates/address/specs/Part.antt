-- The parts of an address.
use Rattle.std.specs.Prelude.{ℕ, Bool, false, List, [], ◌∷◌, map, eqb, length}
use Prim.Native.Char.{code}
use Rattle.std.specs.Prelude.{Option, Some}
use Rattle.format.specs.Lists.{◌>>=◌, provided, each_of, flat, parted}
use Rattle.format.specs.Octets.{split_on}
use Rattle.format.specs.Digits.{digits, number, digit_value, lower_digit}
use Rattle.format.specs.Number.{decimal}
use Rattle.format.specs.Hex.{hex_pair}
use Rattle.format.specs.Address.{small_number, groups, group_text, group_of}
use Rattle.address.specs.declared.part.PartForm.{PartForm}
use Rattle.address.specs.declared.part.PartForm.TheVariants.{Pair, Small, Group}

-- the number that hex digits make
abbrev pub hex_number : List ℕ → Option ℕ
hex_number t = each_of (digit_value 16) t >>= λ ds. Some (number 16 ds)

-- a zero comes first, with another octet after it
abbrev pub zero_first : List ℕ → Bool
zero_first [] = false
zero_first (x ∷ []) = false
zero_first (x ∷ y ∷ xs) = eqb x (code "0")

-- the mark between parts of a form
abbrev pub mark_of : PartForm → ℕ
mark_of Pair = code "-"
mark_of Small = code "."
mark_of Group = code ":"

-- the number of octets of a part
abbrev pub width_of : PartForm → ℕ
width_of Pair = 1
width_of Small = 1
width_of Group = 2

-- the number of a part
abbrev pub value_of : PartForm → List ℕ → Option ℕ
value_of Pair t = hex_pair t
value_of Small t = small_number t
value_of Group t = group_of t

-- a number in w octets
abbrev pub octets_of : ℕ → Option ℕ → Option (List ℕ)
octets_of w o = o >>= λ v. Some (digits 256 w v)

-- the octets of a part
unfoldable pub piece_of : PartForm → List ℕ → Option (List ℕ)
piece_of f t = octets_of (width_of f) (value_of f t)

-- the octets of parts, if they are exactly w
abbrev pub joined : ℕ → Option (List (List ℕ)) → Option (List ℕ)
joined w o = o >>= λ l. provided (eqb (length l) w) (flat l)

-- exactly w parts with the mark c between them, each read by p
unfoldable pub parts_by : ℕ → (List ℕ → Option (List ℕ)) → ℕ → List ℕ → Option (List ℕ)
parts_by c p w t = joined w (each_of p (split_on c t))

-- exactly w parts of a form
abbrev pub parts_of : PartForm → ℕ → List ℕ → Option (List ℕ)
parts_of f w t = parts_by (mark_of f) (piece_of f) w t

-- the numbers of parts, from their octets
abbrev pub numbers_of : PartForm → List ℕ → List ℕ
numbers_of Pair xs = xs
numbers_of Small xs = xs
numbers_of Group xs = groups xs

-- the text of a part's number
abbrev pub text_of : PartForm → ℕ → List ℕ
text_of Pair v = map lower_digit (digits 16 2 v)
text_of Small v = decimal v
text_of Group v = group_text v

-- the texts of parts, with marks between them
abbrev pub texts_of : PartForm → List ℕ → List ℕ
texts_of f xs = parted (mark_of f ∷ []) (map (text_of f) (numbers_of f xs))
