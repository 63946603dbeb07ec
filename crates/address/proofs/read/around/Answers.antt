use Rattle.address.proofs.Groups.{both_all}
use Rattle.address.proofs.read.around.Goals as goal

pub returns : goal.returns
returns c =
    both_all c.args.s.now c.args.t.now _ _ _ _ (rw c.in_ok-m.was at c.side.ensures) _ c.right.result c.right.ensures
