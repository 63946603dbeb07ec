-- AAAA: the octets of its groups.
use Rattle.std.specs.Prelude.{ℕ, ◌+◌, ◌-◌, Bool, true, false, ◌&&◌, List, [], ◌∷◌, ◌++◌, leb, eqb, length, replicate}
use Prim.Native.Char.{code}
use Rattle.std.specs.Prelude.{Option, Some}
use Rattle.format.specs.Lists.{◌>>=◌, provided}
use Rattle.format.specs.Octets.{split_on}
use Rattle.format.specs.Address.{group_octets, last_groups, groups_of, side_of}

-- two colons come first
abbrev pub two_colons : List ℕ → Bool
two_colons [] = false
two_colons (x ∷ []) = false
two_colons (x ∷ y ∷ xs) = eqb x (code ":") && eqb y (code ":")

-- the octets of groups
abbrev pub octets_in : Option (List ℕ) → Option (List ℕ)
octets_in o = o >>= λ gs. Some (group_octets gs)

-- the octets of the last group, or of a dotted address in its place
unfoldable pub last_in : Bool → List ℕ → Option (List ℕ)
last_in tail t = octets_in (last_groups tail t)

-- the octets of the groups between colons
unfoldable pub groups_in : Bool → List ℕ → Option (List ℕ)
groups_in tail t = octets_in (groups_of tail (split_on (code ":") t))

-- the octets of one side of a double colon, which may be empty
unfoldable pub side_in : Bool → List ℕ → Option (List ℕ)
side_in tail t = octets_in (side_of tail t)

-- eight groups: sixteen octets
abbrev pub sixteen : Option (List ℕ) → Option (List ℕ)
sixteen o = o >>= λ xs. provided (eqb (length xs) 16) xs

-- the octets of the right side, with zeros before them, after g octets of the left side: at least one group is left out
abbrev pub filled : ℕ → Option (List ℕ) → Option (List ℕ)
filled g o = o >>= λ ys. provided (leb (g + length ys) 14) (replicate (16 - (g + length ys)) 0 ++ ys)

-- the sixteen octets of an address with a double colon
abbrev pub both_sides : List ℕ → List ℕ → Option (List ℕ)
both_sides s u = side_in false s >>= λ xs. filled (length xs) (side_in true u) >>= λ ys. Some (xs ++ ys)
