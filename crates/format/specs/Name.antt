-- N: "labels of 1 to 63 octets, then zero; at most 255 octets".
-- So a name is counted pieces, its labels and an empty one, and its text is the pieces with dots between them.
use Rattle.std.specs.Prelude.{ℕ, Bool, false, cond, List, [], ◌∷◌, ◌++◌, map, length, leb, eqb}
use Prim.Native.Char.{code}
use Rattle.std.specs.Prelude.{Option, None, Some}
use Rattle.format.specs.Lists.{◌>>=◌, provided, null, flat_map, parted, split}
use Rattle.format.specs.Octets.{ascii, in_range, same_octets}
use Rattle.format.specs.Wire.{label_length, taken, takes_all}
use Rattle.format.specs.Token.{Item, plain, escape, octet_of, unescaped, escaped}
use Rattle.format.specs.Text.{pieces, with_count}

-- "backslash before `. \ " ' ; ( ) @ $`, `\DDD` outside 21 to 7E hex"
abbrev pub name_escape : ℕ → List ℕ
name_escape x = escaped 0x21 (ascii ".\\\"';()@$") x

-- "`.` is the root"
abbrev pub or_root : List ℕ → List ℕ
or_root [] = ascii "."
or_root (x ∷ t) = x ∷ t

-- "Prints absolute, case kept"; "N[O]: nothing, or a name"
abbrev pub name_text : List ℕ → List ℕ
name_text [] = []
name_text (x ∷ xs) = or_root (parted (ascii ".") (map (flat_map name_escape) (pieces (x ∷ xs))))

-- an "unescaped dot"
abbrev pub is_dot : Item → Bool
is_dot (plain x) = eqb x (code ".")
is_dot (escape x) = false

-- a label of 1 to 63 octets before the rest of a name
abbrev pub label_before : List ℕ → List ℕ → Option (List ℕ)
label_before l w = provided (in_range 1 63 (length l)) (with_count l ++ w)

-- "a final unescaped dot makes it absolute, else the origin is appended": an empty last piece is the zero octet
unfoldable pub wire_name : Option (List ℕ) → List (List ℕ) → Option (List ℕ)
wire_name origin [] = None
wire_name origin (l ∷ []) = cond (null l) (Some (0 ∷ [])) (origin >>= label_before l)
wire_name origin (l ∷ m ∷ ls) = wire_name origin (m ∷ ls) >>= label_before l

-- a name's text; without an origin it must be absolute
abbrev pub name_of : Option (List ℕ) → List ℕ → Option (List ℕ)
name_of origin t =
    cond (same_octets t (ascii ".")) (Some (0 ∷ [])) (do
      is ← unescaped t
      w ← wire_name origin (map (map octet_of) (split is_dot is))
      provided (leb (length w) 255) w)

-- "`@` alone is the origin"
abbrev pub read_name : List ℕ → List ℕ → Option (List ℕ)
read_name origin t = cond (same_octets t (ascii "@")) (Some origin) (name_of (Some origin) t)

-- "one whole wire name"
abbrev pub is_wire_name : List ℕ → Bool
is_wire_name xs = takes_all (taken (label_length false 0) xs) xs
