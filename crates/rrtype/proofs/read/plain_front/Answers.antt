use Rattle.rrtype.proofs.Types.{type_front}
use native.Mathlib.Omega.{arith}
use Rattle.rrtype.proofs.read.plain_front.Goals as goal

pub returns-clause-value : goal.returns-clause-value
returns-clause-value c =
    type_front c.args.t.now c.in_ok-after_type.field-0.now _ _ c.in_ok-after_type.ensures.word c.in_ok-after_type.ensures.rest
    (c.five_digits-v.ensures.value (omega arith)) (omega arith)
