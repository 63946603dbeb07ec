use mathlib.Core.Path.{ap, ◌∙◌}
use Rattle.std.specs.Prelude.{Ok}
use Rattle.stanza_form.specs.Code.{fields_of}
use Rattle.stanza_form.proofs.Codes.{codes_many, coded_start, coded_more}
use Rattle.stanza_judge.proofs.Outlines.{no_header, judging_start, line_within, turn_skip, turn_head, turn_add, turn_refuse, line_refused, judging_end}
use native.Mathlib.Omega.{arith}
use borrow.Author.Rules.{rules}
use Rattle.stanza_judge.proofs.judged_lines.Goals as goal

pub loop-at-init : goal.loop-at-init
loop-at-init c = (
  _,
  fields_of c.args.codes.now,
  judging_start c.args.in_file _ no_header _ _ (codes_many c.args.codes.now ∙ c.requires.room) (search rules) _ _ c.requires.begins,
  coded_start c.args.codes.now,
)

pub line_step-r-requires-clause-to : goal.line_step-r-requires-clause-to
line_step-r-requires-clause-to c =
    (line_within c.loop-at.invariant.2 c.loop-at-test.true c.end_of_line-e.result c.end_of_line-e.ensures).1

pub overflow_add-at : goal.overflow_add-at
overflow_add-at c =
    omega (arith, line_within c.loop-at.invariant.2 c.loop-at-test.true c.end_of_line-e.result c.end_of_line-e.ensures)

pub returns-in-Err : goal.returns-in-Err
returns-in-Err c =
    rw c.packed.ensures
    (line_refused c.loop-at.invariant.2 c.loop-at.invariant.3 c.in-Err.refusal _ _ c.number.ensures
    (turn_refuse c.loop-at.invariant.2 c.loop-at-test.true c.end_of_line-e.result c.end_of_line-e.ensures c.line_step-r.result c.line_step-r.ensures.due
    c.line_step-r.ensures.verdict c.in-Err.refusal c.in-Err.is))

pub loop-at-preserved-in-Skip : goal.loop-at-preserved-in-Skip
loop-at-preserved-in-Skip c = (
  _,
  _,
  turn_skip c.loop-at.invariant.2 c.loop-at-test.true c.end_of_line-e.result c.end_of_line-e.ensures c.line_step-r.result c.line_step-r.ensures.due
      c.line_step-r.ensures.verdict (c.in-Ok.is ∙ ap Ok c.in-Skip.is),
  c.loop-at.invariant.3,
)

pub loop-at-preserved-in-Head : goal.loop-at-preserved-in-Head
loop-at-preserved-in-Head c = (
  _,
  _,
  turn_head c.loop-at.invariant.2 c.loop-at-test.true c.end_of_line-e.result c.end_of_line-e.ensures c.line_step-r.result c.line_step-r.ensures.due
      c.line_step-r.ensures.verdict (c.in-Ok.is ∙ ap Ok c.in-Head.is),
  c.loop-at.invariant.3,
)

pub loop-at-preserved : goal.loop-at-preserved
loop-at-preserved c = (
  _,
  _,
  turn_add c.loop-at.invariant.2 c.loop-at-test.true c.end_of_line-e.result c.end_of_line-e.ensures c.line_step-r.result c.line_step-r.ensures.due
      c.line_step-r.ensures.verdict (c.in-Ok.is ∙ ap Ok c.in-Add.is) _ c.after-seen.ensures.header (c.after-seen.ensures.tail _),
  coded_more c.loop-at.codes c.loop-at.invariant.1 c.loop-at.n c.code.result c.in-Add.x.field c.loop-at.invariant.3 c.code.ensures,
)

pub returns : goal.returns
returns c =
    rw c.packed-2.ensures
    (judging_end c.loop-at.invariant.2 c.loop-at.invariant.3 c.loop-at-test.false c.at_end.result c.at_end.ensures.none c.at_end.ensures.some)
