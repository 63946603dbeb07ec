-- The header and the field line that the code found in a stanza.
use Rattle.std.specs.Prelude.{ℕ, ◌≤◌, Option, None, Some, List}
use Rattle.std.proofs.Math.Seq.{slice}
use Rattle.format.specs.Lists.{◌>>=◌}
use Rattle.format.specs.Grammar.{Header, FieldLine}
use Rattle.octets.specs.Octets.{part_in}
use Rattle.stanza_words.specs.Qualifiers.{qualifiers_in}
use Rattle.stanza_grammar.specs.declared.HeaderShape.{HeaderShape}
use Rattle.stanza_grammar.specs.declared.FieldParts.{FieldParts}

-- a header whose line begins at `at` and ends at `end`
abbrev pub header_in : List ℕ → ℕ → ℕ → Option HeaderShape → Option Header
header_in s at end None = None
header_in s at end (Some h) = Some (record { type_name = part_in s at h.name_end; type_no = h.number; header_text = part_in s h.text_at end })

-- a field line whose type begins at `at` and which ends at `end`; its qualifiers are not judged yet
abbrev pub field_line_in : List ℕ → ℕ → ℕ → Option FieldParts → Option FieldLine
field_line_in s at end None = None
field_line_in s at end (Some f) =
    qualifiers_in s f.qualifiers_at f.qualifiers_end >>= λ qs. Some (record {
      keyword = slice at f.type_end s;
      qualifiers = qs;
      field_name = part_in s f.name_at f.name_end;
      free_text = part_in s f.text_at end;
    })

-- the places of a header and of a field line lie in the line
abbrev pub HeaderWithin : ℕ → Option HeaderShape → Type 0
HeaderWithin end None = Unit {0}
HeaderWithin end (Some h) = (h.name_end ≤ end) × (h.text_at ≤ end)

pub record Places (at end : ℕ) (f : FieldParts) : Type 0 where
  pub type_from : at ≤ f.type_end
  pub type_to : f.type_end ≤ end
  pub qualifiers_from : f.qualifiers_at ≤ f.qualifiers_end
  pub qualifiers_to : f.qualifiers_end ≤ end
  pub name_from : f.name_at ≤ f.name_end
  pub name_to : f.name_end ≤ end
  pub text_to : f.text_at ≤ end

abbrev pub LineFieldWithin : ℕ → ℕ → Option FieldParts → Type 0
LineFieldWithin at end None = Unit {0}
LineFieldWithin at end (Some f) = Places at end f
