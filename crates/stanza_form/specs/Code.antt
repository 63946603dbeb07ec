-- A field of a description in one number: its form's number and parameter, and where its qualifiers lie. Where its text lies is not needed.
use Rattle.std.specs.Prelude.{ℕ, ◌/◌, ◌%◌, List, [], ◌∷◌}
use Rattle.stanza_form.specs.declared.Form.{Form}
use Rattle.stanza_form.specs.declared.FieldDesc.{FieldDesc}
use Rattle.stanza_form.specs.Forms.{form_at}

-- a field whose text is not kept
abbrev pub field_with : Form → ℕ → ℕ → FieldDesc
field_with f a e = record { form = f; qualifiers_at = a; qualifiers_end = e; text_at = 0; text_end = 0 }

-- the field of a code: 8 bits for the form's number, 8 for its parameter, 16 for where the qualifiers begin, 16 for where they end
abbrev pub field_at : ℕ → FieldDesc
field_at c = field_with (form_at (c % 256) (c / 256 % 256)) (c / 65536 % 65536) (c / 4294967296 % 65536)

-- the fields of codes
abbrev pub fields_of : List ℕ → List FieldDesc
fields_of [] = []
fields_of (c ∷ cs) = field_at c ∷ fields_of cs
