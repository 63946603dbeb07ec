use Rattle.octets.proofs.Slices.{none_alone}
use Rattle.octets.proofs.is_alone.Goals as goal

pub returns-in_default-2 : goal.returns-in_default-2
returns-in_default-2 c = none_alone c.args.b c.args.xs.now c.in_default.len_at_least
