use Rattle.address.proofs.Addresses.{eui_parts}
use Rattle.eui.proofs.read.field.Goals as goal

pub returns : goal.returns
returns c = rw (eui_parts c.args.w c.args.t.now) at c.parts.ensures
