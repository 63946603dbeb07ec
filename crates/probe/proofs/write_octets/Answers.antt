use Rattle.std.proofs.Common.{arith}
use Rattle.probe_reply.proofs.Replies.{octets_most}
use Rattle.probe.proofs.write_octets.Goals as goal

-- Two digits for each octet, or the one of none.
pub shared_ref_as_front-write : goal.shared_ref_as_front-write
shared_ref_as_front-write c = omega (arith, c.put_octets-end.ensures.count, octets_most c.args.lines.now, c.requires)
