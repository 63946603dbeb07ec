-- The judged stanza as the code has it, and what it means.
use Rattle.std.specs.Prelude.{ℕ, ◌+◌, ◌-◌, ◌/◌, ◌%◌, ◌≤◌, ◌<◌, ◌≡◌, Bool, true, false, cond, List, [], length, get_or, drop, eqb}
use Rattle.format.specs.Lists.{flat_map}
use Rattle.format.specs.Field.{Part, kinds}
use Rattle.format.specs.Text.{pieces, with_count}
use Rattle.format.specs.Lines.{placed, lines_of}
use Rattle.format.specs.Judge.{Description, before_header, Judged, rejected, described, judged_from}
use Rattle.format.specs.Stored.{Lent, judged_of}
use Rattle.octets.specs.Octets.{line_end}
use Rattle.stanza_form.specs.declared.FieldDesc.{FieldDesc}
use Rattle.stanza_form.specs.Fields.{Placed, no_field, fields_from}
use Rattle.stanza_form.specs.Code.{fields_of}
use Rattle.stanza_judge.specs.declared.Outline.{Outline}

-- The lines from a place on: in a file they end at LF; stored, each stands after its count.
abbrev pub lines_in : Bool → List ℕ → ℕ → List Part
lines_in true s at = placed at (lines_of (drop at s))
lines_in false s at = placed at (pieces (drop (at - 1) s))

-- where the line ends that begins at a place
abbrev pub end_in : Bool → List ℕ → ℕ → ℕ
end_in true s at = line_end s at
end_in false s at = at + get_or s (at - 1) 0

-- no string is cut short of those from a place on, the first of which begins there
pub record Whole (s : List ℕ) (at : ℕ) : Type 0 where
  pub after_count : 1 ≤ at
  pub strings : List (List ℕ)
  pub counted : drop (at - 1) s ≡ flat_map with_count strings

-- lines may be judged from a place on, the first being number `line` + 1
pub record Begins (in_file : Bool) (s : List ℕ) (at line : ℕ) : Type 0 where
  pub short : length s ≤ 8192
  pub within : at ≤ length s + 1
  pub counted : line ≤ at
  pub whole : in_file ≡ false → Whole s at

-- the verdict on them
abbrev pub begun : Bool → List ℕ → ℕ → ℕ → Judged
begun in_file s at line = judged_from in_file (line + 1) before_header (lines_in in_file s at)

-- what a number stands for: the refusal's number, the line and the count of fields
abbrev pub outline_at : ℕ → Outline
outline_at r = record { number = r / 4294967296 % 256; line = r / 65536 % 65536; count = r % 65536 }

-- the description d, or the refusal
abbrev pub outline_of : Description → Outline → Judged
outline_of d o = cond (eqb o.number 0) (described d) (rejected o.number o.line)

-- the qualifiers of all n fields lie in the stanza
abbrev pub AllPlaced : List ℕ → List FieldDesc → ℕ → Type 0
AllPlaced s fs n = (k : ℕ) → k < n → Placed s (get_or fs k no_field)

-- a judged description: what was found (which the code does not keep) or the refusal is j; the codes give as many fields as are
-- described, of the same kinds, and if it is accepted their qualifiers lie in the octets s that were lent
pub record OutlinedAs (j : Judged) (s codes : List ℕ) (o : Outline) : Type 0 where
  pub found : Description
  pub judges : outline_of found o ≡ j
  pub many : length found.fields ≡ o.count
  pub coded : kinds found.fields ≡ kinds (fields_from s (fields_of codes) [] [] 0 o.count)
  pub placed : o.number ≡ 0 → AllPlaced s (fields_of codes) o.count

-- of a description as it is lent
abbrev pub Outlined : Lent → List ℕ → List ℕ → Outline → Type 0
Outlined l s codes o = OutlinedAs (judged_of l) s codes o
