-- Parts of a text: their order, and what sorting them leaves.
use Rattle.std.specs.Prelude.{ℕ, ◌/◌, ◌%◌, ◌≡◌, Bool, true, false, cond}
use mathlib.Core.List.{List, [], ◌∷◌, map, Permᴰ}
use Rattle.std.specs.declared.cmp.Ordering.{Ordering}
use Rattle.std.specs.declared.cmp.Ordering.TheVariants.{Less, Greater}
use Rattle.std.specs.Ordering.{nat_cmp}
use Rattle.std.specs.Cmp.Lexicographic.{slice_cmp}
use Rattle.std.proofs.Math.Seq.{slice}
use Rattle.format.specs.Lists.{twice}
use Rattle.format.specs.Octets.{lowered}
use Rattle.stanza_words.specs.Qualifiers.{same_by}

-- the part that a number names: its start is the upper half of the number, its end the lower half
abbrev pub part_of : List ℕ → ℕ → List ℕ
part_of s n = slice (n / 65536) (n % 65536) s

-- the octet, in lower case if `ignoring`
abbrev pub folded : Bool → ℕ → ℕ
folded ignoring x = cond ignoring (lowered x) x

-- the order of two texts: that of the first octets that differ, in lower case if `ignoring`; what ends first is less
abbrev pub order_by : Bool → List ℕ → List ℕ → Ordering
order_by ignoring xs ys = slice_cmp nat_cmp (map (folded ignoring) xs) (map (folded ignoring) ys)

-- which of two runs the next part is taken from
abbrev pub head_order : Bool → List ℕ → List ℕ → List ℕ → Ordering
head_order ignoring s [] ys = Greater
head_order ignoring s (x ∷ xs) [] = Less
head_order ignoring s (x ∷ xs) (y ∷ ys) = order_by ignoring (part_of s x) (part_of s y)

-- each part is less than the next
abbrev pub Rising : Bool → List ℕ → List ℕ → Type 0
Rising ignoring s [] = Unit {0}
Rising ignoring s (x ∷ []) = Unit {0}
Rising ignoring s (x ∷ y ∷ xs) = (order_by ignoring (part_of s x) (part_of s y) ≡ Less) × Rising ignoring s (y ∷ xs)

-- what sorting leaves: two parts are the same, or the same parts stand in rising order
abbrev pub Sorted : Bool → List ℕ → List ℕ → List ℕ → Bool → Type 0
Sorted ignoring s before after true = twice (same_by ignoring) (map (part_of s) before) ≡ true
Sorted ignoring s before after false = Permᴰ before after × Rising ignoring s after
