use Rattle.std.proofs.Common.{arith}
use Rattle.streams.proofs.Writing.{upto_more, upto_still, upto_kept, upto_part, upto_failed}
use Rattle.streams.proofs.put_all.Goals as goal

pub returns-in_err-n : goal.returns-in_err-n
returns-in_err-n g c =
    upto_failed (upto_kept c.loop-rest.invariant _ c.in_err-n.ensures.bytes) (grind arith) _ c.from_residual.ensures.0

pub returns-then-n-eq0 : goal.returns-then-n-eq0
returns-then-n-eq0 g c =
    upto_part (upto_still c.loop-rest.invariant c.in_ok-n.n c.if-n-eq0.true c.in_ok-n.ensures.bytes) (grind arith)

pub loop-rest-preserved : goal.loop-rest-preserved
loop-rest-preserved g c =
    upto_more c.loop-rest.invariant c.in_ok-n.n c.in_ok-n.ensures.bytes
