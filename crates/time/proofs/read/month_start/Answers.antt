use mathlib.Core.Bool.{true, false}
use Rattle.time.proofs.Moments.{month_later}
use Rattle.time.proofs.read.month_start.Goals as goal

pub returns-then-leap-clause-value : goal.returns-then-leap-clause-value
returns-then-leap-clause-value c = rw c.if-leap.true (month_later true c.args.m c.if-m-lt2.false c.requires)

pub returns-else-leap-clause-value : goal.returns-else-leap-clause-value
returns-else-leap-clause-value c = rw c.if-leap.false (month_later false c.args.m c.if-m-lt2.false c.requires)
