use Rattle.std.proofs.Common.{refl}
use Rattle.base_group.specs.Group.{base64_numbers}
use Rattle.base.proofs.read.base64.Goals as goal

pub base64_by-requires-clause-alphabet : goal.base64_by-requires-clause-alphabet
unfolding base64_numbers
base64_by-requires-clause-alphabet c = refl
