use Rattle.std.proofs.Common.{arith}
use Rattle.probe_request.proofs.Requests.{job_read}
use Rattle.probe_request.proofs.read_job.Goals as goal

pub returns-clause-request : goal.returns-clause-request
returns-clause-request c = job_read c.in_ok-to.ensures (omega (arith, c.requires.short, c.requires.room)) c.in_ok-no_more.ensures
