use Rattle.std.proofs.Common.{arith, ◌∙◌}
use Rattle.job_fault.proofs.Faults.{not_one, bad_name}
use Rattle.job_fault.proofs.fault.origin_fault.Goals as goal

pub returns-then-s-ne1 : goal.returns-then-s-ne1
returns-then-s-ne1 c =
    c.at_line-then-s-ne1.ensures ∙ not_one _ _ c.args.k _ c.in-Some.ensures (λ q. omega (arith, c.if-s-ne1.true))

pub returns-in-None : goal.returns-in-None
returns-in-None c =
    c.at_line-in-None.ensures ∙ bad_name c.args.j.now c.args.at c.args.k c.in-Some.s c.in-Some.ensures c.if-s-ne1.false c.in-None.ensures _ c.line_end-e.ensures _ c.name_reason.ensures
