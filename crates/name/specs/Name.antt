-- A name that is read label by label.
use Rattle.std.specs.Prelude.{ℕ, ◌+◌, ◌-◌, ◌≤◌, ◌<◌, ◌≡◌, Bool, true, false, List, [], ◌∷◌, ◌++◌, map, leb, eqb, length, drop, get_or}
use Prim.Native.Char.{code}
use Rattle.std.specs.Prelude.{Option, None, Some}
use Rattle.format.specs.Lists.{◌>>=◌, provided, cons_both, split}
use Rattle.format.specs.Token.{Item, octet_of, unescaped}
use Rattle.format.specs.Name.{is_dot, wire_name}
use Rattle.buffer.specs.Writing.{Wrote}
use Rattle.name.specs.declared.read.LabelEnd.{LabelEnd}
use Rattle.name.specs.declared.read.LabelEnd.TheVariants.{Dot, Last}

-- the texts between the dots
abbrev pub labels_of : List Item → List (List ℕ)
labels_of is = map (map octet_of) (split is_dot is)

-- the octets of the name that a text spells, however many
abbrev pub spelled : List ℕ → List ℕ → Option (List ℕ)
spelled origin t = unescaped t >>= λ is. wire_name (Some origin) (labels_of is)

-- "at most 255 octets"
abbrev pub limited : Option (List ℕ) → Option (List ℕ)
limited o = o >>= λ w. provided (leb (length w) 255) w

-- the octet at a place of a text, plain or escaped, and the place after it
abbrev pub OneItem : List ℕ → ℕ → Option (ℕ × ℕ) → Type 0
OneItem t j None = unescaped (drop j t) ≡ None
OneItem t j (Some (x, k)) = (i : Item) × (octet_of i ≡ x) × (is_dot i ≡ eqb (get_or t j 0) (code ".")) × (j < k) × (k ≤ length t) × (unescaped (drop j t) ≡ cons_both (Some i) (unescaped (drop k t)))

-- The label that begins at i stands in the buffer from n to m, after its count. The name goes on at k, after the dot; or the
-- origin follows.
pub record BeforeDot (before after : List ℕ) (n : ℕ) (t : List ℕ) (i k m : ℕ) : Type 0 where
  pub label : List ℕ
  pub wrote : Wrote before after n m label
  pub small : m ≤ n + 64
  pub on : i < k
  pub within : k ≤ length t
  pub same : (origin : List ℕ) → spelled origin (drop i t) ≡ (spelled origin (drop k t) >>= λ w. Some (label ++ w))

pub record BeforeOrigin (before after : List ℕ) (n : ℕ) (t : List ℕ) (i m : ℕ) : Type 0 where
  pub label : List ℕ
  pub wrote : Wrote before after n m label
  pub small : m ≤ n + 64
  pub same : (origin : List ℕ) → spelled origin (drop i t) ≡ Some (label ++ origin)

abbrev pub Labelled : List ℕ → List ℕ → ℕ → List ℕ → ℕ → Option LabelEnd → Type 0
Labelled before after n t i None = (origin : List ℕ) → spelled origin (drop i t) ≡ None
Labelled before after n t i (Some (Dot k m)) = BeforeDot before after n t i k m
Labelled before after n t i (Some (Last m)) = BeforeOrigin before after n t i m

-- "a final unescaped dot makes it absolute, else the origin is appended"
abbrev pub name_end : Bool → List ℕ → List ℕ
name_end true origin = 0 ∷ []
name_end false origin = origin

-- the end of a name stands in the buffer from m on; there is no result if the name from n on has more than 255 octets
abbrev pub Finished : List ℕ → List ℕ → ℕ → ℕ → List ℕ → Option ℕ → Type 0
Finished before after n m end r = (z : ℕ) × Wrote before after m z end × (r ≡ provided (leb (z - n) 255) z)
