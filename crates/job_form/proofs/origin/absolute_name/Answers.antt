use Rattle.job_form.proofs.Origins.{absolute_value, relative_value}
use Rattle.job_form.proofs.origin.absolute_name.Goals as goal

pub returns-then-x-y : goal.returns-then-x-y
returns-then-x-y c =
    absolute_value c.args.t.now _ _ _ _ c.in_ok-x.x c.in_ok-y.y c.in_ok-x.ensures c.in_ok-y.ensures c.if-x-y.true

pub returns-else-x-y : goal.returns-else-x-y
returns-else-x-y c =
    relative_value c.args.t.now _ _ _ _ c.in_ok-x.x c.in_ok-y.y c.in_ok-x.ensures c.in_ok-y.ensures c.if-x-y.false
