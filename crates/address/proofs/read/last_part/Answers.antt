use mathlib.Core.Path.{sym, ◌∙◌}
use Rattle.address.proofs.Groups.{last_group, last_tail, last_none}
use Rattle.address.proofs.read.last_part.Goals as goal

pub returns-in-Some : goal.returns-in-Some
returns-in-Some c = (_, last_group c.args.t.now c.args.tail _ (sym c.number.ensures ∙ c.in-Some.is), c.put_number.ensures)

pub returns-then-tail : goal.returns-then-tail
returns-then-tail c =
    rw c.if-tail.true (rw (last_tail c.args.t.now (sym c.number.ensures ∙ c.in_default.is)) at c.parts.ensures)

pub returns : goal.returns
returns c = rw c.if-tail.false (last_none c.args.t.now (sym c.number.ensures ∙ c.in_default.is))
