-- S, S[M], S[X]: "count octet, then octets"; "one or more strings"; "one token, no count, one or more octets".
use Rattle.std.specs.Prelude.{ℕ, zero, suc, not, List, [], ◌∷◌, ◌++◌, map, length, drop}
use Prim.Native.Char.{code}
use Rattle.std.specs.Prelude.{Option, None, Some}
use Rattle.format.specs.Lists.{◌>>=◌, provided, null, flat_map, cons_first}
use Rattle.format.specs.Octets.{ascii, in_range, among}
use Rattle.format.specs.Token.{Token, bare, quoted, broken, octet_of, unescaped, escaped}

-- the pieces from where n octets of the first are left
abbrev pub pieces_from : ℕ → List ℕ → List (List ℕ)
pieces_from n [] = [] ∷ []
pieces_from zero (c ∷ xs) = [] ∷ pieces_from c xs
pieces_from (suc n) (x ∷ xs) = cons_first x (pieces_from n xs)

-- the pieces of octets that are counts, each before as many octets
abbrev pub pieces : List ℕ → List (List ℕ)
pieces xs = drop 1 (pieces_from 0 xs)

-- octets after their count
abbrev pub with_count : List ℕ → List ℕ
with_count t = length t ∷ t

-- a count of lo to 255
abbrev pub counted : ℕ → List ℕ → Option (List ℕ)
counted lo t = provided (in_range lo 255 (length t)) (with_count t)

-- "Prints in `"`, backslash before `"` and `\`, `\DDD` outside 20 to 7E hex."
abbrev pub string_escape : ℕ → List ℕ
string_escape x = escaped 0x20 (ascii "\"\\") x

-- all of a string
abbrev pub string_text : List ℕ → List ℕ
string_text xs = ascii "\"" ++ flat_map string_escape xs ++ ascii "\""

-- "Bare only if not empty and without backslash; quoted with N's escapes."
abbrev pub string_value : Token → Option (List ℕ)
string_value (bare t) = provided (not (among (code "\\") t)) t
string_value (quoted t) = unescaped t >>= λ is. Some (map octet_of is)
string_value broken = None

-- "count octet, then octets"
abbrev pub read_string : Token → Option (List ℕ)
read_string t = string_value t >>= counted 0

-- "one or more octets"
abbrev pub not_empty : List ℕ → Option (List ℕ)
not_empty t = provided (not (null t)) t

-- "one token, no count, one or more octets"
abbrev pub read_raw : Token → Option (List ℕ)
read_raw t = string_value t >>= not_empty
