use Rattle.std.proofs.Common.{length, arith}
use Rattle.octets.specs.Octets.{in_class}
use Rattle.octets.specs.declared.Class.TheVariants.{NotNewline}
use Rattle.octets.proofs.Slices.{front_within}
use Rattle.probe_request.proofs.line_end.Goals as goal

pub returns-clause-within : goal.returns-clause-within
returns-clause-within c = omega (arith, front_within (in_class NotNewline) c.args.xs.now c.args.i (length c.args.xs.now) c.requires (omega arith))
