-- The text of a bitmap's types, which is written in pieces.
use Rattle.std.specs.Prelude.{ℕ, Bool, true, false, List, map, ◌++◌}
use Rattle.format.specs.Lists.{flat_map, parted}
use Rattle.format.specs.Octets.{ascii}

-- types with spaces between them, and a space before the first if others were written before; `text` writes one type
abbrev pub types_text : (ℕ → List ℕ) → Bool → List ℕ → List ℕ
types_text text true ts = flat_map (λ t. ascii " " ++ text t) ts
types_text text false ts = parted (ascii " ") (map text ts)
