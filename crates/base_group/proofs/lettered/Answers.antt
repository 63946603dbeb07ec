use Rattle.base_group.specs.Group.{letters}
use Rattle.base_group.proofs.lettered.Goals as goal

pub returns : goal.returns
unfolding letters
returns g c = c.octets.ensures
