use mathlib.Core.Path.{sym, ap, ◌∙◌}
use Rattle.format.specs.Octets.{blank}
use Rattle.format.specs.Judge.{ignored}
use Rattle.octets.proofs.Slices.{lent}
use Rattle.stanza_words.proofs.Laws.{run_end, run_within}
use Rattle.stanza_line.proofs.Verdicts.{handed_on, progress_after, line_ignored, line_read}
use Rattle.stanza_line.proofs.line_step.Goals as goal

pub returns-then-ignored-clause-verdict : goal.returns-then-ignored-clause-verdict
returns-then-ignored-clause-verdict c =
    let w = run_within blank c.args.s.now c.args.at c.args.e _ c.requires.from c.skip.ensures c.requires.to in
    λ d st. line_ignored c.args.s.now c.args.at c.args.e _ c.requires.from c.requires.to
    (run_end blank c.args.s.now c.args.at c.args.e _ c.requires.from c.skip.ensures) c.args.in_file _
    (ap ignored (sym (lent c.args.s.now _ c.args.e w)) ∙ sym c.ignored.ensures ∙ c.if-ignored.true)

pub returns-in_err-x-clause-verdict : goal.returns-in_err-x-clause-verdict
returns-in_err-x-clause-verdict c =
    let w = run_within blank c.args.s.now c.args.at c.args.e _ c.requires.from c.skip.ensures c.requires.to in
    λ d st. rw (c.in-Nothing.is, handed_on c.in_err-x.field-0.0 _ c.from_residual.ensures.1)
    (line_read c.args.s.now c.args.at c.args.e _ c.requires.from c.requires.to
    (run_end blank c.args.s.now c.args.at c.args.e _ c.requires.from c.skip.ensures) c.args.in_file _ _
    (ap ignored (sym (lent c.args.s.now _ c.args.e w)) ∙ sym c.ignored.ensures ∙ c.if-ignored.false)
    (rw c.in_err-x.was at c.header_verdict.ensures))

pub returns-in-Nothing-clause-verdict : goal.returns-in-Nothing-clause-verdict
returns-in-Nothing-clause-verdict c =
    let w = run_within blank c.args.s.now c.args.at c.args.e _ c.requires.from c.skip.ensures c.requires.to in
    λ d st. rw c.in-Nothing.is
    (line_read c.args.s.now c.args.at c.args.e _ c.requires.from c.requires.to
    (run_end blank c.args.s.now c.args.at c.args.e _ c.requires.from c.skip.ensures) c.args.in_file _ _
    (ap ignored (sym (lent c.args.s.now _ c.args.e w)) ∙ sym c.ignored.ensures ∙ c.if-ignored.false)
    (rw c.in_ok-x.was at c.header_verdict.ensures))

pub returns-in_err-x-2 : goal.returns-in_err-x-2
returns-in_err-x-2 c =
    let w = run_within blank c.args.s.now c.args.at c.args.e _ c.requires.from c.skip.ensures c.requires.to in
    record {
      due = rw (handed_on c.in_err-x-2.field-0.0 _ c.from_residual-in_err-x-2.ensures.1) tt;
      verdict = λ d st. rw (progress_after c.args.seen d c.in_default.not-Nothing, handed_on c.in_err-x-2.field-0.0 _ c.from_residual-in_err-x-2.ensures.1)
          (line_read c.args.s.now c.args.at c.args.e _ c.requires.from c.requires.to
          (run_end blank c.args.s.now c.args.at c.args.e _ c.requires.from c.skip.ensures) c.args.in_file _ _
          (ap ignored (sym (lent c.args.s.now _ c.args.e w)) ∙ sym c.ignored.ensures ∙ c.if-ignored.false)
          (c.in_err-x-2.ensures.value d));
    }

pub returns : goal.returns
returns c =
    let w = run_within blank c.args.s.now c.args.at c.args.e _ c.requires.from c.skip.ensures c.requires.to in
    record {
      due = c.field_step.ensures.due;
      verdict = λ d st. rw (progress_after c.args.seen d c.in_default.not-Nothing)
          (line_read c.args.s.now c.args.at c.args.e _ c.requires.from c.requires.to
          (run_end blank c.args.s.now c.args.at c.args.e _ c.requires.from c.skip.ensures) c.args.in_file _ _
          (ap ignored (sym (lent c.args.s.now _ c.args.e w)) ∙ sym c.ignored.ensures ∙ c.if-ignored.false)
          (rw (progress_after c.args.seen d c.in_default.not-Nothing) at (c.field_step.ensures.verdict d st) ∙ c.in_ok-x-2.ensures.value d));
    }
