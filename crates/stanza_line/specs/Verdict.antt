-- What the code's verdict and step for a line mean in its stanza.
use Rattle.std.specs.Prelude.{ℕ, ◌≤◌, ◌<◌, ◌≡◌, Bool, true, false, not, ◌&&◌, Result, Ok, Err, List, [], ◌∷◌, ◌++◌, length}
use Rattle.std.specs.List.{list_any}
use Rattle.std.proofs.Math.Seq.{slice}
use Rattle.format.specs.Lists.{any_of, null}
use Rattle.format.specs.Octets.{same_word}
use Rattle.format.specs.Field.{Field}
use Rattle.format.specs.Grammar.{Header}
use Rattle.format.specs.Judge.{Description, Progress, before_header, after_header, Verdict, faulty, goes_on, after_tail, same_name, with_field}
use Rattle.octets.specs.Octets.{part_in}
use Rattle.stanza_form.specs.Fields.{field_of, Placed}
use Rattle.stanza_types.specs.declared.Misuse.{Misuse}
use Rattle.stanza_types.specs.declared.Misuse.TheVariants.{Malformed as BadQualifiers, Unknown as UnknownName, Forbidden as BadName}
use Rattle.stanza_line.specs.declared.HeaderDesc.{HeaderDesc}
use Rattle.stanza_line.specs.declared.Span.{Span}
use Rattle.stanza_line.specs.declared.NewField.{NewField}
use Rattle.stanza_line.specs.declared.Refusal.{Refusal}
use Rattle.stanza_line.specs.declared.Refusal.TheVariants.{Malformed, Unknown, Forbidden, TooMany}
use Rattle.stanza_line.specs.declared.Seen.{Seen}
use Rattle.stanza_line.specs.declared.Seen.TheVariants.{Nothing, Header as SeenHeader, Tail}
use Rattle.stanza_line.specs.declared.Step.{Step}
use Rattle.stanza_line.specs.declared.Step.TheVariants.{Skip, Head, Add}

-- the numbers of refusals in document 01, 2
abbrev pub refusal_number : Refusal → ℕ
refusal_number Malformed = 2
refusal_number Unknown = 3
refusal_number Forbidden = 4
refusal_number TooMany = 5

-- the refusal of a type and its qualifiers
abbrev pub refusal_of : Misuse → Refusal
refusal_of BadQualifiers = Malformed
refusal_of UnknownName = Unknown
refusal_of BadName = Forbidden

abbrev pub header_of : List ℕ → HeaderDesc → Header
header_of s h = record { type_name = part_in s h.name_at h.name_end; type_no = h.number; header_text = part_in s h.text_at h.text_end }

-- the verdict on a header line
abbrev pub header_verdict : List ℕ → Result HeaderDesc Refusal → Verdict
header_verdict s (Err r) = faulty (refusal_number r)
header_verdict s (Ok h) = goes_on (after_header (record { header = header_of s h; fields = [] }))

-- a new field in its stanza
abbrev pub field_for : List ℕ → NewField → Field
field_for s f = field_of s f.field f.name.at f.name.end

-- the verdict on a field line after the fields of d
abbrev pub field_verdict : List ℕ → Description → Result NewField Refusal → Verdict
field_verdict s d (Err r) = faulty (refusal_number r)
field_verdict s d (Ok f) = with_field d (field_for s f)

-- the name and the qualifiers of a new field lie in the stanza
pub record Within (s : List ℕ) (f : NewField) : Type 0 where
  pub name_from : f.name.at ≤ f.name.end
  pub name_to : f.name.end ≤ length s
  pub placed : Placed s f.field

abbrev pub VerdictWithin : List ℕ → Result NewField Refusal → Type 0
VerdictWithin s (Err r) = Unit {0}
VerdictWithin s (Ok f) = Within s f

-- two names are the same, letters' case ignored, and not empty
abbrev pub same_text : List ℕ → List ℕ → Bool
same_text x y = not (null x) && same_word x y

-- one of the names is a text
abbrev pub named_among : List ℕ → List Span → List ℕ → Bool
named_among s names t = list_any (λ x. same_text (slice x.at x.end s) t) names

-- the state of the judge: before the header, or after it with a description
abbrev pub progress_of : Seen → Description → Progress
progress_of Nothing d = before_header
progress_of SeenHeader d = after_header d
progress_of Tail d = after_header d

abbrev pub tail_in : Seen → Bool
tail_in Nothing = false
tail_in SeenHeader = false
tail_in Tail = true

abbrev pub with_more : Progress → Field → Verdict
with_more before_header f = faulty 0
with_more (after_header d) f = goes_on (after_header (record { header = d.header; fields = d.fields ++ f ∷ [] }))

-- a description with fields of these names, of which one is a tail if one was seen
pub record Stands (s : List ℕ) (d : Description) (seen : Seen) (names : List Span) : Type 0 where
  pub many : length d.fields ≡ length names
  pub tails : after_tail d.fields ≡ tail_in seen
  pub named : (f : Field) (a e : ℕ) → f.field_name ≡ part_in s a e → any_of (λ g. same_name g f) d.fields ≡ named_among s names (slice a e s)

-- what a line does
abbrev pub step_of : List ℕ → Progress → Result Step Refusal → Verdict
step_of s p (Err r) = faulty (refusal_number r)
step_of s p (Ok Skip) = goes_on p
step_of s p (Ok (Head h)) = goes_on (after_header (record { header = header_of s h; fields = [] }))
step_of s p (Ok (Add f)) = with_more p (field_for s f)

-- a field is added only where there are fewer than 64, after the header and before a tail
pub record Room (s : List ℕ) (seen : Seen) (n : ℕ) (f : NewField) : Type 0 where
  pub few : n < 64
  pub after : seen ≡ SeenHeader
  pub placed : Placed s f.field

-- a header is found only if there was none, and a field only after it
abbrev pub Due : List ℕ → Seen → ℕ → Result Step Refusal → Type 0
Due s seen n (Err r) = Unit {0}
Due s seen n (Ok Skip) = Unit {0}
Due s seen n (Ok (Head h)) = seen ≡ Nothing
Due s seen n (Ok (Add f)) = Room s seen n f
