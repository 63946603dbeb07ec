use Rattle.std.proofs.Common.{arith, ◌∙◌}
use Rattle.job_fault.proofs.Faults.{count_small, line_after}
use Rattle.job_fault.proofs.fault.records_fault.Goals as goal

pub overflow_cast-s : goal.overflow_cast-s
overflow_cast-s c = omega (arith, count_small _ _ c.args.k _ c.in-Some.ensures, c.requires.short)

pub overflow_add-k : goal.overflow_add-k
overflow_add-k c = omega (arith, count_small _ _ c.args.k _ c.in-Some.ensures, c.requires.short, c.requires.line)

pub overflow_add-k-then-s-j : goal.overflow_add-k-then-s-j
overflow_add-k-then-s-j c = omega (arith, count_small _ _ c.args.k _ c.in-Some.ensures, c.requires.short, c.requires.line)

pub returns-then-s-j : goal.returns-then-s-j
returns-then-s-j c =
    c.at_line-then-s-j.ensures ∙ line_after _ _ c.args.k _ c.in-Some.ensures c.if-s-j.true
