use mathlib.Core.Path.{sym, ap}
use Rattle.format.specs.Lists.{null}
use Rattle.run_read.proofs.Runs.{none_left}
use Rattle.run_read.proofs.none_from.Goals as goal

pub returns-then-i-t : goal.returns-then-i-t
returns-then-i-t c = sym (ap null (none_left c.args.t.now c.args.i c.if-i-t.true))
