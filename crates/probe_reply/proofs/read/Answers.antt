use Rattle.std.proofs.Common.{arith}
use Rattle.buffer.proofs.Laws.{wrote_text}
use Rattle.probe_request.specs.Words.{run_named}
use Rattle.probe_reply.specs.Reply.{asked_reading}
use Rattle.probe_reply.proofs.Results.{answered, answer_fits, place_within, reading_told}
use Rattle.probe_reply.proofs.read.Goals as goal

pub put_reply-requires-clause-within : goal.put_reply-requires-clause-within
put_reply-requires-clause-within c = place_within _ (reading_told (run_named 82 c.args.run c.args.octets.now)) c.args.rdata.now c.taken-reply.ensures

pub returns : goal.returns
returns c =
    let e = answered _ (reading_told (run_named 82 c.args.run c.args.octets.now)) c.args.rdata.now c.taken-reply.ensures in
    let w = wrote_text _ _ e c.put_reply.ensures in
    record { line = w; fits = omega (arith, w.count, answer_fits _ (asked_reading (run_named 82 c.args.run c.args.octets.now)) c.requires.room) }
