-- The verdicts on header lines and field lines.
use Prim.Native.Nat.{ℕ, ◌+◌, ◌≤◌, ◌<◌}
use mathlib.Core.Path.{◌≡◌, refl, sym, ap, ◌∙◌}
use mathlib.Core.Bool.{Bool, true, false, not, cond}
use mathlib.Core.List.{List, [], ◌∷◌, ◌++◌}
use Rattle.std.specs.Result.{IsErrAnd}
use Rattle.std.specs.Prelude.{Option, None, Some, Result, Ok, Err}
use native.Mathlib.Omega.{arith}
use lib.ListN.{length}
use lib.Seq.{slice, length-slice}
use lib.Dec.{eqb}
use borrow.Author.Tests.{eq-eqb, ne_eqb, le-leb, lt-leb}
use Rattle.format.specs.Lists.{◌>>=◌, null, span}
use Rattle.format.specs.Octets.{blank}
use Rattle.format.specs.Field.{Field}
use Rattle.format.specs.Grammar.{FieldLine, Qualifier}
use Rattle.format.specs.Types.{Meaning, unknown, forbidden, means, meaning}
use Rattle.format.specs.Judge.{Description, Progress, after_header, Verdict, faulty, goes_on, with_field, of_meaning, of_field_line, content_line, ignored, line_verdict}
use Rattle.octets.specs.Octets.{in_class, part_in, front_end}
use Rattle.octets.specs.declared.Class.TheVariants.{Blank}
use Rattle.octets.proofs.Slices.{front_rest}
use Rattle.stanza_words.specs.Qualifiers.{qualifiers_in}
use Rattle.stanza_grammar.specs.declared.FieldParts.{FieldParts}
use Rattle.stanza_grammar.specs.Grammar.{field_line_in, Places}
use Rattle.stanza_form.specs.declared.Form.{Form}
use Rattle.stanza_types.specs.declared.Misuse.{Misuse}
use Rattle.stanza_types.specs.declared.Misuse.TheVariants.{Malformed, Unknown, Forbidden}
use Rattle.stanza_types.specs.Types.{meant_in, meaning_in}
use Rattle.stanza_form.specs.Forms.{kind_in}
use Rattle.stanza_form.specs.Fields.{Placed}
use Rattle.stanza_types.proofs.Symbols.{symbols_listed}
use Rattle.stanza_form.specs.declared.FieldDesc.{FieldDesc}
use Rattle.stanza_line.specs.declared.Seen.{Seen}
use Rattle.stanza_line.specs.declared.Seen.TheVariants.{Nothing, Header as SeenHeader, Tail}
use Rattle.stanza_line.specs.declared.Span.{Span}
use Rattle.stanza_line.specs.Verdict.{refusal_number, refusal_of, named_among, progress_of, Stands}

-- an error that `?` hands on
pub handed_on : {A E : Type 0} (e : E) (r : Result A E) → IsErrAnd r (λ x. x ≡ e) → r ≡ Err e
handed_on e (Ok x) h = absurd h
handed_on e (Err x) h = ap Err h

-- field lines: the verdict on a line of a given shape, by what its type and qualifiers mean
abbrev line_of : List ℕ → ℕ → ℕ → FieldParts → List Qualifier → FieldLine
line_of s t e x qs = record { keyword = slice t x.type_end s; qualifiers = qs; field_name = part_in s x.name_at x.name_end; free_text = part_in s x.text_at e }

-- the verdict by that meaning; 2 if there is none
abbrev by_meaning : Description → FieldLine → Option Meaning → Verdict
by_meaning d l None = faulty 2
by_meaning d l (Some n) = of_meaning d l n

meaning_verdict : (s : List ℕ) (t e : ℕ) (x : FieldParts) (d : Description) (o : Option (List Qualifier))
    → of_field_line d (o >>= λ qs. Some (line_of s t e x qs)) ≡ by_meaning d (line_of s t e x []) (o >>= λ qs. Some (meaning (slice t x.type_end s) qs))
meaning_verdict s t e x d None = refl
meaning_verdict s t e x d (Some qs) = by (meaning (slice t x.type_end s) qs)
  where
    by : (n : Meaning) → of_meaning d (line_of s t e x qs) n ≡ of_meaning d (line_of s t e x []) n
    by unknown = refl
    by forbidden = refl
    by (means k) = refl

module _ (s : List ℕ) (t e : ℕ) (x : FieldParts) (m : Result Form Misuse)
    (g : meant_in s x.qualifiers_at x.qualifiers_end m ≡ meaning_in (slice t x.type_end s) s x.qualifiers_at x.qualifiers_end) (d : Description) where
  line_verdict_lem : of_field_line d (field_line_in s t e (Some x)) ≡ by_meaning d (line_of s t e x []) (meant_in s x.qualifiers_at x.qualifiers_end m)
  line_verdict_lem = meaning_verdict s t e x d (qualifiers_in s x.qualifiers_at x.qualifiers_end) ∙ ap (by_meaning d (line_of s t e x [])) (sym g)

  pub line_refused : (r : Misuse) → m ≡ Err r → faulty (refusal_number (refusal_of r)) ≡ of_field_line d (field_line_in s t e (Some x))
  line_refused Malformed q = sym (line_verdict_lem ∙ rw q)
  line_refused Unknown q = sym (line_verdict_lem ∙ rw q)
  line_refused Forbidden q = sym (line_verdict_lem ∙ rw q)

  pub line_means : {f : Form} → m ≡ Ok f
      → with_field d (record { kind = kind_in s x.qualifiers_at x.qualifiers_end f; field_name = part_in s x.name_at x.name_end; free_text = part_in s x.text_at e }) ≡ of_field_line d (field_line_in s t e (Some x))
  line_means q = sym (line_verdict_lem ∙ rw q)

-- where a field's qualifiers lie, and its symbols
pub line_placed : (s : List ℕ) (t e : ℕ) (x : FieldParts) (d : FieldDesc) → Places t e x → e ≤ length s
    → meant_in s x.qualifiers_at x.qualifiers_end (Ok d.form) ≡ meaning_in (slice t x.type_end s) s x.qualifiers_at x.qualifiers_end
    → d.qualifiers_at ≡ x.qualifiers_at → d.qualifiers_end ≡ x.qualifiers_end → Placed s d
line_placed s t e x d p l g a b = record {
  from = omega (arith, p.qualifiers_from, a, b);
  to = omega (arith, p.qualifiers_to, b);
  listed = λ w m q. symbols_listed (slice t x.type_end s) s d.qualifiers_at d.qualifiers_end (kind_in s d.qualifiers_at d.qualifiers_end d.form) (rw (a, b) g) w m q;
}

-- what was seen, if it is not nothing
pub seen_header : (seen : Seen) → (seen ≡ Nothing → ⊥) → (seen ≡ Tail → ⊥) → seen ≡ SeenHeader
seen_header Nothing h k = absurd (h refl)
seen_header SeenHeader h k = refl
seen_header Tail h k = absurd (k refl)

pub progress_after : (seen : Seen) (d : Description) → (seen ≡ Nothing → ⊥) → progress_of seen d ≡ after_header d
progress_after Nothing d h = absurd (h refl)
progress_after SeenHeader d h = refl
progress_after Tail d h = refl

-- a field after a tail, and after the fields before it
module _ (s : List ℕ) (d : Description) (names : List Span) (f : Field) where
  pub after_tail : Stands s d Tail names → faulty 4 ≡ with_field d f
  after_tail st = rw st.tails

  module _ (a e : ℕ) (p : f.field_name ≡ part_in s a e) (st : Stands s d SeenHeader names) where
    pub named_again : named_among s names (slice a e s) ≡ true → faulty 4 ≡ with_field d f
    named_again k = rw (st.tails, st.named f a e p, k)

    pub too_many : named_among s names (slice a e s) ≡ false → 64 ≤ length names → faulty 5 ≡ with_field d f
    too_many k l = rw (st.tails, st.named f a e p, k, st.many, le-leb 64 (length names) l)

    pub one_more : named_among s names (slice a e s) ≡ false → length names < 64 → goes_on (after_header (record { header = d.header; fields = d.fields ++ f ∷ [] })) ≡ with_field d f
    one_more k l = rw (st.tails, st.named f a e p, k, st.many, lt-leb 64 (length names) l)

-- a line from at to e, whose first nonblank is at t
module _ (s : List ℕ) (at e t : ℕ) (l : at ≤ e) (k : e ≤ length s) (q : t ≡ front_end (in_class Blank) s at e) where
  line_end_lem : at + length (slice at e s) ≡ e
  line_end_lem = omega (arith, length-slice at e s k)

  no_front : null (span blank (slice at e s)).front ≡ eqb t at
  no_front = by (span blank (slice at e s)).front q
    where
      by : (u : List ℕ) → t ≡ at + length u → null u ≡ eqb t at
      by [] r = sym (eq-eqb t at (omega arith))
      by (y ∷ u) r = sym (ne_eqb t at (λ z. omega arith))

  rest_line : (span blank (slice at e s)).rest ≡ slice t e s
  rest_line = sym (front_rest (in_class Blank) s at e) ∙ ap (λ j. slice j e s) (sym q)

  -- the definition's verdict on it
  line_is : (in_file : Bool) (p : Progress) → line_verdict in_file p (part_in s at e) ≡ cond (ignored (slice t e s)) (goes_on p) (content_line in_file p (not (eqb t at)) e (slice t e s))
  line_is in_file p = rw (line_end_lem, rest_line, no_front)

  pub line_ignored : (in_file : Bool) (p : Progress) → ignored (slice t e s) ≡ true → goes_on p ≡ line_verdict in_file p (part_in s at e)
  line_ignored in_file p h = sym (line_is in_file p ∙ rw h)

  pub line_read : (in_file : Bool) (p : Progress) (v : Verdict) → ignored (slice t e s) ≡ false → v ≡ content_line in_file p (not (eqb t at)) e (slice t e s) → v ≡ line_verdict in_file p (part_in s at e)
  line_read in_file p v h r = r ∙ sym (line_is in_file p ∙ rw h)
