-- Document 02, 5: "Lend two stanzas, the preferred language and the default." The free text of a field in one of them.
use Rattle.std.specs.Prelude.{ℕ, suc, ◌-◌, not, cond, List, [], ◌∷◌, map, length, drop}
use Rattle.std.specs.Prelude.{Option, None, Some}
use Rattle.format.specs.Lists.{null, span}
use Rattle.format.specs.Octets.{blank, same_octets}
use Rattle.format.specs.Field.{Part, Field, kinds}
use Rattle.format.specs.Lines.{lines}
use Rattle.format.specs.Judge.{ignored, Judged, rejected, described, judged}
use Rattle.format.specs.Entries.{is_run}
use Rattle.format.specs.TwoForms.{unindented}

-- "the preferred language and the default"
pub data Whose : Type 0 where
  preferred : Whose
  default : Whose

-- "with a mark of which one": 0 and 1
abbrev pub mark_of : Whose → ℕ
mark_of preferred = 0
mark_of default = 1

-- "headers and field lines": the lines that do not "only count for numbering"
abbrev pub content_lines : List Part → List Part
content_lines [] = []
content_lines (l ∷ ls) = cond (ignored (unindented l.octets)) (content_lines ls) (l ∷ content_lines ls)

-- "Up to the blank before free text, .. leading blanks apart": no blank stands before that one in a header or a field line (`FixedParts`)
abbrev pub fixed_part : Part → List ℕ
fixed_part l = (span (λ x. not (blank x)) (unindented l.octets)).front

-- of a stanza, in order: the header's is number 0, the fields' are numbered from 1
abbrev pub fixed_parts : List ℕ → List (List ℕ)
fixed_parts stanza = map fixed_part (content_lines (lines stanza))

-- "must be equal in number and .. octet for octet": the number of the first that is not, counted from i
abbrev pub differs_at : ℕ → List (List ℕ) → List (List ℕ) → Option ℕ
differs_at i [] [] = None
differs_at i [] (u ∷ us) = Some i
differs_at i (t ∷ ts) [] = Some i
differs_at i (t ∷ ts) (u ∷ us) = cond (same_octets t u) (differs_at (suc i) ts us) (Some i)

-- A prompt, "with a mark of which one": the part of that stanza's text; or that stanza's refusal, its number and place.
pub data Prompt : Type 0 where
  shows : Whose → Part → Prompt
  refuses : Whose → ℕ → ℕ → Prompt

-- a stanza's own refusal, or what follows with its fields
abbrev pub of_own : Whose → Judged → (List Field → Prompt) → Prompt
of_own w (rejected n i) f = refuses w n i
of_own w (described d) f = f d.fields

-- "15, place the first differing field or 0 for the header", or what follows
abbrev pub unless_differs : Option ℕ → Prompt → Prompt
unless_differs None p = p
unless_differs (Some i) p = refuses default 15 i

-- the free text of the first of some fields
abbrev pub text_of_first : List Field → Part
text_of_first [] = record { place = 0; octets = [] }
text_of_first (f ∷ fs) = f.free_text

-- "that field's free text", the first field being number 1
abbrev pub text_at : ℕ → List Field → Part
text_at field fs = text_of_first (drop (field - 1) fs)

-- "the part of the preferred stanza holding that field's free text, or the default stanza's part if the preferred text is empty or absent"
abbrev pub chosen : Part → Part → Prompt
chosen p d = cond (null p.octets) (shows default d) (shows preferred p)

-- "Refusals: the preferred stanza's own, the default's own, then 15 .., then 6; .. the mark says whose refusal it is (the default for 15 and 6)"
unfoldable pub prompted : List ℕ → List ℕ → ℕ → Prompt
prompted own other field =
    of_own preferred (judged own) (λ fs.
    of_own default (judged other) (λ gs.
    unless_differs (differs_at 0 (fixed_parts own) (fixed_parts other)) (
    cond (is_run field 1 (kinds gs)) (chosen (text_at field fs) (text_at field gs)) (refuses default 6 0))))

-- The answer of a call: 0 and the part's length, or a refusal's number and place; the mark; where the part begins in the marked text.
pub record Shown : Type 0 where
  pub number : ℕ
  pub place : ℕ
  pub whose : Whose
  pub part : Part

-- "the part returned is then empty"
abbrev pub no_part : Part
no_part = record { place = 0; octets = [] }

-- the answer of a prompt
abbrev pub shown_by : Prompt → Shown
shown_by (shows w p) = record { number = 0; place = length p.octets; whose = w; part = p }
shown_by (refuses w n i) = record { number = n; place = i; whose = w; part = no_part }

-- `prompt(preferred, default, field)`
unfoldable pub prompt : List ℕ → List ℕ → ℕ → Shown
prompt own other field = shown_by (prompted own other field)
