use Rattle.std.proofs.Common.{arith}
use Rattle.probe_reply.proofs.Replies.{judged_most}
use Rattle.probe_reply.proofs.judge.Goals as goal

pub returns-in-None-clause-fits : goal.returns-in-None-clause-fits
returns-in-None-clause-fits c = omega (arith, c.put_judged.ensures.count, judged_most c.judge.result.number c.judge.result.place)

pub returns-in-Some-clause-fits : goal.returns-in-Some-clause-fits
returns-in-Some-clause-fits c = omega (arith, c.put_judged-in-Some.ensures.count, judged_most c.judge_stored.result.number c.judge_stored.result.place)
