-- Document 02, 5: what is claimed of prompts. Each statement is a type here; its proof stands in proofs/.
use Rattle.std.specs.Prelude.{ℕ, suc, ◌+◌, ◌≤◌, ◌≡◌, ◌⊎◌, true, false, List, [], ◌∷◌, ◌++◌, map, length, take, drop}
use Rattle.std.specs.Prelude.{None, Some}
use Rattle.std.proofs.Math.Seq.{slice}
use Rattle.format.specs.Lists.{null, span}
use Rattle.format.specs.Octets.{blank}
use Rattle.format.specs.Field.{Part, Field, kinds}
use Rattle.format.specs.Lines.{lines}
use Rattle.format.specs.Grammar.{part_at, Header, header_line, FieldLine, field_line}
use Rattle.format.specs.Catalogue.{Entry}
use Rattle.format.specs.Judge.{Description, rejected, described, judged}
use Rattle.format.specs.Stored.{as_file}
use Rattle.format.specs.Entries.{is_run, printing_of, reading_of}
use Rattle.format.specs.TwoForms.{unplaced, unplaced_kind, unindented}
use Rattle.format.specs.Prompt.{Whose, preferred, default, content_lines, fixed_part, fixed_parts, differs_at, shows, refuses, text_at, prompted, no_part}

-- 1. The fixed part of a line is right.

-- "Up to the blank before free text": after its leading blanks a line is its fixed part, and then nothing, or a blank and the free text
abbrev pub FixedThenText : Part → List ℕ → Type 0
FixedThenText l text = ((unindented l.octets ≡ fixed_part l) × (text ≡ [])) ⊎ ((b : ℕ) × (blank b ≡ true) × (unindented l.octets ≡ fixed_part l ++ b ∷ text))

-- of every header and every field line
pub record FixedParts : Type 0 where
  pub header : (end : ℕ) (l : Part) (h : Header) → header_line end (unindented l.octets) ≡ Some h → FixedThenText l h.header_text.octets
  pub field : (end : ℕ) (l : Part) (f : FieldLine) → field_line end (unindented l.octets) ≡ Some f → FixedThenText l f.free_text.octets

-- what stands behind the blank after the fixed part
abbrev pub behind_fixed : Part → List ℕ
behind_fixed l = drop (suc (length (fixed_part l))) (unindented l.octets)

-- it is the free text of such a line, and ends with it
abbrev pub line_text : Part → Part
line_text l = part_at (l.place + length l.octets) (behind_fixed l) (behind_fixed l)

-- the free texts of an accepted stanza's fields are those of its field lines, in order
abbrev pub TextsOfLines : Type 0
TextsOfLines = (s : List ℕ) (d : Description) → judged s ≡ described d → map (λ (f : Field). f.free_text) d.fields ≡ map line_text (drop 1 (content_lines (lines s)))

-- 2. "It must be that very part of the lent text, with a mark of which one."

-- the marked text of the two
abbrev pub lent_text : Whose → List ℕ → List ℕ → List ℕ
lent_text preferred own other = own
lent_text default own other = other

-- a part of a text: its octets are the text's from its place on
pub record PartOf (s : List ℕ) (p : Part) : Type 0 where
  pub within : p.place + length p.octets ≤ length s
  pub octets : p.octets ≡ slice p.place (p.place + length p.octets) s

-- what is shown is the field's free text by the judge's own definition, and a part of the marked text
pub record Shows (own other : List ℕ) (field : ℕ) (w : Whose) (p : Part) : Type 0 where
  pub description : Description
  pub judges : judged (lent_text w own other) ≡ described description
  pub is_field : is_run field 1 (kinds description.fields) ≡ true
  pub text : p ≡ text_at field description.fields
  pub part : PartOf (lent_text w own other) p

-- of every prompt that is shown
abbrev pub PartOfLent : Type 0
PartOfLent = (own other : List ℕ) (field : ℕ) (w : Whose) (p : Part) → prompted own other field ≡ shows w p → Shows own other field w p

-- 3. 15 and its place.

-- equal lists differ nowhere; of others the first i are equal, and the first i + 1 are not
pub record FirstDiffering : Type 0 where
  pub nowhere : (ts us : List (List ℕ)) → differs_at 0 ts us ≡ None → ts ≡ us
  pub alike : (ts : List (List ℕ)) → differs_at 0 ts ts ≡ None
  pub before : (ts us : List (List ℕ)) (i : ℕ) → differs_at 0 ts us ≡ Some i → take i ts ≡ take i us
  pub there : (ts us : List (List ℕ)) (i : ℕ) → differs_at 0 ts us ≡ Some i → take (suc i) ts ≡ take (suc i) us → ⊥

-- A refusal is the marked stanza's own; or, both being accepted, the default's 15 or 6.
pub data Refuses (own other : List ℕ) (field : ℕ) : Whose → ℕ → ℕ → Type 0 where
  own_refusal : (w : Whose) (n i : ℕ) → judged (lent_text w own other) ≡ rejected n i → Refuses own other field w n i
  not_alike : (d e : Description) (i : ℕ) → judged own ≡ described d → judged other ≡ described e → differs_at 0 (fixed_parts own) (fixed_parts other) ≡ Some i → i ≤ 64 → Refuses own other field default 15 i
  no_field : (d e : Description) → judged own ≡ described d → judged other ≡ described e → fixed_parts own ≡ fixed_parts other → is_run field 1 (kinds e.fields) ≡ false → Refuses own other field default 6 0

-- of every prompt that is refused
abbrev pub PromptRefusals : Type 0
PromptRefusals = (own other : List ℕ) (field : ℕ) (w : Whose) (n i : ℕ) → prompted own other field ≡ refuses w n i → Refuses own other field w n i

-- 4. Why prompts may be swapped.

-- a field without its free text: its kind and its name
abbrev pub untexted : Field → Field
untexted f = record { kind = unplaced_kind f.kind; field_name = unplaced f.field_name; free_text = no_part }

-- the header's type name and number
abbrev pub untexted_header : Header → Header
untexted_header h = record { type_name = unplaced h.type_name; type_no = h.type_no; header_text = no_part }

-- a description without free texts and places
abbrev pub without_texts : Description → Description
without_texts d = record { header = untexted_header d.header; fields = map untexted d.fields }

-- two stanzas differ in free texts and places alone, and every conversion under either answers the same
pub record SameButTexts (own other : List ℕ) (d e : Description) : Type 0 where
  pub description : without_texts d ≡ without_texts e
  pub prints : (first len : ℕ) (es : List Entry) (names rdata : List ℕ) → printing_of (as_file own) first len es names rdata ≡ printing_of (as_file other) first len es names rdata
  pub reads : (first len : ℕ) (es : List Entry) (names origin text : List ℕ) → reading_of (as_file own) first len es names origin text ≡ reading_of (as_file other) first len es names origin text

-- so it is of every two accepted stanzas with equal fixed parts
abbrev pub Swapped : Type 0
Swapped = (own other : List ℕ) (d e : Description) → judged own ≡ described d → judged other ≡ described e → fixed_parts own ≡ fixed_parts other → SameButTexts own other d e

-- 5. Both texts the same stanza: the field's own text.
abbrev pub OwnText : Type 0
OwnText = (s : List ℕ) (d : Description) (field : ℕ) → judged s ≡ described d → is_run field 1 (kinds d.fields) ≡ true → (w : Whose) × (prompted s s field ≡ shows w (text_at field d.fields))
