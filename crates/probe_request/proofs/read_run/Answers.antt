use Rattle.std.proofs.Common.{arith}
use Rattle.probe_request.proofs.Requests.{run_read}
use Rattle.probe_request.proofs.read_run.Goals as goal

pub returns-clause-request : goal.returns-clause-request
returns-clause-request c =
    run_read c.args.letter c.in_ok-lent.ensures c.in_ok-first.ensures c.in_ok-many.ensures c.in_ok-catalogue.ensures c.in_ok-middle.ensures c.in_ok-to.ensures c.in_ok-room.ensures
    (omega (arith, c.requires.short, c.requires.room)) c.in_ok-no_more.ensures
