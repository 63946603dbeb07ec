-- A code and its parts, and the fields in an array of codes.
use Prim.Native.Nat.{ℕ, zero, suc, ◌+◌, ◌*◌, ◌/◌, ◌%◌, ◌<◌}
use mathlib.Core.Path.{◌≡◌, refl, sym, ap, ◌∙◌}
use mathlib.Core.List.{List, [], ◌∷◌}
use native.Mathlib.Omega.{arith}
use lib.ListN.{length, get_or, set}
use Rattle.stanza_form.specs.declared.FieldDesc.{FieldDesc}
use Rattle.stanza_form.specs.Fields.{no_field}
use Rattle.stanza_form.specs.Code.{field_with, field_at, fields_of}
use Rattle.stanza_form.specs.Forms.{form_at}

-- the parts of a code can be read back from it
pub code_parts : (n p a e : ℕ) → n < 256 → p < 256 → a < 65536 → e < 65536 → field_at (n + p * 256 + a * 65536 + e * 4294967296) ≡ field_with (form_at n p) a e
code_parts n p a e h i j k = rw (number, parameter, from, to)
  where
    c : ℕ
    c = n + p * 256 + a * 65536 + e * 4294967296

    number : c % 256 ≡ n
    number = omega arith

    parameter : c / 256 % 256 ≡ p
    parameter = omega arith

    from : c / 65536 % 65536 ≡ a
    from = omega arith

    to : c / 4294967296 % 65536 ≡ e
    to = omega arith

-- the field at place k; the code 0 is a field of zeros
pub field_at_lem : (cs : List ℕ) (k : ℕ) → get_or (fields_of cs) k no_field ≡ field_at (get_or cs k 0)
unfolding form_at
field_at_lem [] k = refl
field_at_lem (c ∷ cs) zero = refl
field_at_lem (c ∷ cs) (suc k) = field_at_lem cs k

-- the field that the code reads at place k
pub read_at : (cs : List ℕ) (k : ℕ) {d : FieldDesc} → d ≡ field_at (get_or cs k 0) → d ≡ get_or (fields_of cs) k no_field
read_at cs k e = e ∙ sym (field_at_lem cs k)

pub codes_many : (cs : List ℕ) → length (fields_of cs) ≡ length cs
codes_many [] = refl
codes_many (c ∷ cs) = ap suc (codes_many cs)

fields_set : (cs : List ℕ) (k c : ℕ) → fields_of (set cs k c) ≡ set (fields_of cs) k (field_at c)
fields_set [] k c = refl
fields_set (x ∷ cs) zero c = refl
fields_set (x ∷ cs) (suc k) c = ap (λ l. field_at x ∷ l) (fields_set cs k c)

-- the codes of fields give the same fields without their texts
abbrev pub without_text : FieldDesc → FieldDesc
without_text d = field_with d.form d.qualifiers_at d.qualifiers_end

abbrev pub without_texts : List FieldDesc → List FieldDesc
without_texts [] = []
without_texts (d ∷ ds) = without_text d ∷ without_texts ds

pub coded_start : (cs : List ℕ) → fields_of cs ≡ without_texts (fields_of cs)
coded_start [] = refl
coded_start (c ∷ cs) = ap (λ l. field_at c ∷ l) (coded_start cs)

pub coded_at : (ds : List FieldDesc) (k : ℕ) → get_or (without_texts ds) k no_field ≡ without_text (get_or ds k no_field)
coded_at [] k = refl
coded_at (d ∷ ds) zero = refl
coded_at (d ∷ ds) (suc k) = coded_at ds k

coded_set : (ds : List FieldDesc) (k : ℕ) (d : FieldDesc) → set (without_texts ds) k (without_text d) ≡ without_texts (set ds k d)
coded_set [] k d = refl
coded_set (x ∷ ds) zero d = refl
coded_set (x ∷ ds) (suc k) d = ap (λ l. without_text x ∷ l) (coded_set ds k d)

pub coded_more : (cs : List ℕ) (ds : List FieldDesc) (k c : ℕ) (d : FieldDesc) → fields_of cs ≡ without_texts ds → field_at c ≡ without_text d → fields_of (set cs k c) ≡ without_texts (set ds k d)
coded_more cs ds k c d e f = fields_set cs k c ∙ rw (e, f) (coded_set ds k d)
