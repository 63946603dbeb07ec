use Rattle.address.proofs.Groups.{both_same, whole_same}
use Rattle.address.proofs.read.aaaa.Goals as goal

pub returns-in-Some : goal.returns-in-Some
returns-in-Some c = rw (both_same c.args.t.now _ _ c.in-Some.ensures.sides) at c.around.ensures

pub returns-in-None : goal.returns-in-None
returns-in-None c = rw (whole_same c.args.t.now c.in-None.ensures.sides) at c.whole.ensures
