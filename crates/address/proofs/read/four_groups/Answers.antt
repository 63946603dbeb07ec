use Rattle.address.proofs.Addresses.{aa_parts}
use Rattle.address.proofs.read.four_groups.Goals as goal

pub returns : goal.returns
returns c = rw (aa_parts c.args.t.now) at c.parts.ensures
