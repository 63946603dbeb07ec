use mathlib.Core.Path.{refl, ap, ◌∙◌}
use Rattle.octets.proofs.Slices.{lent}
use Rattle.stanza_types.specs.Types.{meaning_in}
use Rattle.stanza_line.specs.Verdict.{refusal_of}
use Rattle.stanza_line.proofs.Verdicts.{handed_on, line_refused, line_means, line_placed}
use native.Mathlib.Omega.{arith}
use Rattle.stanza_line.proofs.field_meant.Goals as goal

pub returns-in_err-form-clause-value : goal.returns-in_err-form-clause-value
returns-in_err-form-clause-value c =
    let g = c.meaning_of.ensures
    ∙ ap (λ k. meaning_in k c.args.s.now c.args.x.qualifiers_at c.args.x.qualifiers_end) (lent c.args.s.now c.args.i c.args.x.type_end c.requires.places.type_from) in
    λ d. rw (handed_on (refusal_of c.in_err-form.field-0.0) _ c.from_residual.ensures.1)
    (line_refused c.args.s.now c.args.i c.args.e c.args.x _ g d c.in_err-form.field-0.0 c.in_err-form.was)

pub returns-clause-value : goal.returns-clause-value
returns-clause-value c =
    let g = c.meaning_of.ensures
    ∙ ap (λ k. meaning_in k c.args.s.now c.args.x.qualifiers_at c.args.x.qualifiers_end) (lent c.args.s.now c.args.i c.args.x.type_end c.requires.places.type_from) in
    λ d. line_means c.args.s.now c.args.i c.args.e c.args.x _ g d c.in_ok-form.was

pub returns-clause-within : goal.returns-clause-within
returns-clause-within c =
    let g = c.meaning_of.ensures
    ∙ ap (λ k. meaning_in k c.args.s.now c.args.x.qualifiers_at c.args.x.qualifiers_end) (lent c.args.s.now c.args.i c.args.x.type_end c.requires.places.type_from) in
    record {
      name_from = c.requires.places.name_from;
      name_to = omega (arith, c.requires.places.name_to, c.requires.within);
      placed = line_placed c.args.s.now c.args.i c.args.e c.args.x _ c.requires.places c.requires.within (rw c.in_ok-form.was at g) refl refl;
    }
