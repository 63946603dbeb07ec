use Rattle.std.proofs.Common.{arith}
use Rattle.job_fault.proofs.Faults.{count_small}
use Rattle.job_fault.proofs.fault.first_fault.Goals as goal

pub overflow_cast-s : goal.overflow_cast-s
overflow_cast-s c = omega (arith, count_small c.args.j.now 0 1 c.in-Some.s c.in-Some.ensures, c.if-j-gt65535.false)

pub overflow_add-s : goal.overflow_add-s
overflow_add-s c = omega (arith, count_small c.args.j.now 0 1 c.in-Some.s c.in-Some.ensures, c.if-j-gt65535.false)

pub origin_fault-requires-clause-line : goal.origin_fault-requires-clause-line
origin_fault-requires-clause-line c = omega (arith, count_small c.args.j.now 0 1 c.in-Some.s c.in-Some.ensures, c.if-j-gt65535.false)
