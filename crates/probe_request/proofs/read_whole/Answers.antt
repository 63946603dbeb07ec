use Rattle.std.proofs.Common.{arith}
use Rattle.probe_request.proofs.Requests.{whole_read}
use Rattle.probe_request.proofs.read_whole.Goals as goal

pub returns-clause-request : goal.returns-clause-request
returns-clause-request c = whole_read c.in_ok-description.ensures (omega (arith, c.requires.short, c.requires.room)) c.in_ok-no_more.ensures
