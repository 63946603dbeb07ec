-- The parts of a header and of a field line, as the code finds them one after another.
use Rattle.std.specs.Prelude.{ℕ, ◌≤◌, Bool, false, Option, None, Some, List, [], ◌∷◌, ◌++◌, eqb}
use Prim.Native.Char.{code}
use Rattle.std.proofs.Math.Seq.{slice}
use Rattle.format.specs.Lists.{◌>>=◌, Spanned, span}
use Rattle.format.specs.Octets.{digit}
use Rattle.format.specs.Field.{Part}
use Rattle.format.specs.Grammar.{Numbered, Qualified, FieldLine, part_at, after, if_decimal, after_options, free_text_at, qualifiers_at, field_name_at}
use Rattle.octets.specs.Octets.{part_in}
use Rattle.stanza_words.specs.Qualifiers.{qualifiers_in}
use Rattle.stanza_grammar.specs.declared.Digits.{Digits}
use Rattle.stanza_grammar.specs.declared.Brackets.{Brackets}
use Rattle.stanza_grammar.specs.declared.Named.{Named}

-- whether a text begins with the octet c
abbrev pub begins : ℕ → List ℕ → Bool
begins c [] = false
begins c (x ∷ t) = eqb x c

-- a place from a to e, if there is one
abbrev pub Within : ℕ → ℕ → Option ℕ → Type 0
Within a e None = Unit {0}
Within a e (Some j) = (a ≤ j) × (j ≤ e)

-- the part from `at` to a place, and the rest up to `end`
abbrev pub cut_in : List ℕ → ℕ → ℕ → Option ℕ → Option Spanned
cut_in s at end None = None
cut_in s at end (Some e) = Some (record { front = slice at e s; rest = slice e end s })

-- the rest from a place on
abbrev pub rest_in : List ℕ → ℕ → Option ℕ → Option (List ℕ)
rest_in s end None = None
rest_in s end (Some j) = Some (slice j end s)

abbrev pub text_in : List ℕ → ℕ → Option ℕ → Option Part
text_in s end None = None
text_in s end (Some j) = Some (part_in s j end)

-- a header after its name: `:` and digits; options and free text
abbrev pub number_after : List ℕ → Option Numbered
number_after t = after (code ":") t >>= λ u. if_decimal (span digit u)

abbrev pub text_after : ℕ → List ℕ → Option Part
text_after end t = after_options t >>= λ r. free_text_at end r

abbrev pub number_in : List ℕ → ℕ → Option Digits → Option Numbered
number_in s end None = None
number_in s end (Some d) = Some (record { value = d.number; rest = slice d.end end s })

abbrev pub DigitsWithin : ℕ → Option Digits → Type 0
DigitsWithin end None = Unit {0}
DigitsWithin end (Some d) = d.end ≤ end

-- the qualifiers, not judged yet, and the rest after them
abbrev pub brackets_in : List ℕ → ℕ → Option Brackets → Option Qualified
brackets_in s end None = None
brackets_in s end (Some b) = qualifiers_in s b.at b.end >>= λ qs. Some (record { qualifiers = qs; rest = slice b.rest end s })

abbrev pub BracketsWithin : ℕ → Option Brackets → Type 0
BracketsWithin end None = Unit {0}
BracketsWithin end (Some b) = (b.at ≤ b.end) × (b.end ≤ end) × (b.rest ≤ end)

-- a field's name, and the rest after it
abbrev pub named_in : List ℕ → ℕ → Option Named → Option Spanned
named_in s end None = None
named_in s end (Some n) = Some (record { front = slice n.at n.end s; rest = slice n.end end s })

abbrev pub NamedWithin : ℕ → Option Named → Type 0
NamedWithin end None = Unit {0}
NamedWithin end (Some n) = (n.at ≤ n.end) × (n.end ≤ end)

-- a field line after its type k
abbrev pub after_type : ℕ → List ℕ → List ℕ → Option FieldLine
after_type end k t = do
  q ← qualifiers_at end t
  n ← field_name_at q.rest
  text ← free_text_at end n.rest
  Some (record { keyword = k; qualifiers = q.qualifiers; field_name = part_at end (n.front ++ n.rest) n.front; free_text = text })
