-- The fields of a description as the code has them, and what they mean in their stanza.
use Rattle.std.specs.Prelude.{ℕ, zero, suc, ◌+◌, ◌≤◌, ◌≡◌, true, List, [], ◌∷◌, length, get_or}
use Rattle.std.specs.Prelude.{Some}
use Rattle.format.specs.Field.{Symbol, Kind, int, Field}
use Rattle.format.specs.Demands.{sound_kind}
use Rattle.octets.specs.Octets.{part_in}
use Rattle.stanza_form.specs.declared.FieldDesc.{FieldDesc}
use Rattle.stanza_form.specs.declared.Form.TheVariants.{Int}
use Rattle.stanza_form.specs.Forms.{symbols_in, kind_in}

-- the field that a FieldDesc and the places of its name describe
abbrev pub field_of : List ℕ → FieldDesc → ℕ → ℕ → Field
field_of s f a e = record { kind = kind_in s f.qualifiers_at f.qualifiers_end f.form; field_name = part_in s a e; free_text = part_in s f.text_at f.text_end }

-- a field's qualifiers lie in the stanza, and an integer's symbols are those listed there
pub record Placed (s : List ℕ) (f : FieldDesc) : Type 0 where
  pub from : f.qualifiers_at ≤ f.qualifiers_end
  pub to : f.qualifiers_end ≤ length s
  pub listed : (w : ℕ) (l : List Symbol) → kind_in s f.qualifiers_at f.qualifiers_end f.form ≡ int w l
      → symbols_in w s f.qualifiers_at f.qualifiers_end ≡ Some l

-- what is read past the end of the array
abbrev pub no_field : FieldDesc
no_field = record { form = Int 0; qualifiers_at = 0; qualifiers_end = 0; text_at = 0; text_end = 0 }

-- `m` fields, starting at number k, from the array of fields and the arrays of the places of their names
abbrev pub fields_from : List ℕ → List FieldDesc → List ℕ → List ℕ → ℕ → ℕ → List Field
fields_from s fs names ends k zero = []
fields_from s fs names ends k (suc m) = field_of s (get_or fs k no_field) (get_or names k 0) (get_or ends k 0) ∷ fields_from s fs names ends (k + 1) m

-- the kind of a field in the stanza s
abbrev pub kind_for : List ℕ → FieldDesc → Kind
kind_for s d = kind_in s d.qualifiers_at d.qualifiers_end d.form

-- a field of a judged stanza: its qualifiers lie in the stanza, and its kind is one that the judge accepts
pub record Usable (s : List ℕ) (d : FieldDesc) : Type 0 where
  pub placed : Placed s d
  pub sound : sound_kind (kind_for s d) ≡ true
