use Rattle.job_form.specs.Lines.{lines_at}
use Rattle.job_form.proofs.Places.{some_lines}
use Rattle.job_form.proofs.Origins.{not_one, one_line}
use native.Mathlib.Omega.{arith}
use Rattle.job_form.proofs.origin.read_origin.Goals as goal

pub returns-then-n-ne1 : goal.returns-then-n-ne1
returns-then-n-ne1 c =
    not_one (lines_at c.args.j.now c.args.at) _ c.requires.lines (λ q. omega (arith, c.if-n-ne1.true))

pub line_end-e-requires : goal.line_end-e-requires
line_end-e-requires c =
    some_lines c.args.j.now c.args.at (omega (arith, c.requires.lines, c.if-n-ne1.false))

pub returns : goal.returns
returns c =
    one_line c.args.j.now _ _ _ c.line_end-e.ensures c.if-n-ne1.false _ _ c.name_line.result c.name_line.ensures
