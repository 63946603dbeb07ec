-- What the code's answer for one escape means, by the definitions of document 01.
use Rattle.std.specs.Prelude.{ℕ, ◌≤◌, ◌<◌, Bool, not, List, eqb, length, drop, Option, None, Some}
use Prim.Native.Char.{code}
use Rattle.format.specs.Lists.{cons_both}
use Rattle.format.specs.Token.{Item, escape, outside, unescaped_from}

-- an octet that begins no escape
abbrev pub no_escape : ℕ → Bool
no_escape x = not (eqb x (code "\\"))

-- the items that are left of a token, given the octet of the escape that comes first and how many octets it takes
abbrev pub items_after : List ℕ → Option (ℕ × ℕ) → Option (List Item)
items_after t None = None
items_after t (Some (x, n)) = cons_both (Some (escape x)) (unescaped_from outside (drop n t))

-- the escape takes at least one octet, and not more than there are
abbrev pub Within : List ℕ → Option (ℕ × ℕ) → Type 0
Within t None = Unit {0}
Within t (Some (x, n)) = (0 < n) × (n ≤ length t)
