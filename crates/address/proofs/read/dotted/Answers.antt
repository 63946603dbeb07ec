use Rattle.address.proofs.Addresses.{a_parts}
use Rattle.address.proofs.read.dotted.Goals as goal

pub returns : goal.returns
returns c = rw (a_parts c.args.t.now) at c.parts.ensures
