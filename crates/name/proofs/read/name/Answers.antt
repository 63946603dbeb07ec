use Rattle.std.proofs.Common.{arith}
use Rattle.format.proofs.Name.{wire_name_255}
use Rattle.name.proofs.read.name.Goals as goal

pub put_all-requires-clause-octets : goal.put_all-requires-clause-octets
put_all-requires-clause-octets c = omega (arith, wire_name_255 c.args.origin.now c.requires.origin)

pub labels-requires-clause-origin : goal.labels-requires-clause-origin
labels-requires-clause-origin c = (wire_name_255 c.args.origin.now c.requires.origin).1
