use Rattle.stanza_judge.proofs.Outlines.{judged_long, file_begun, told_outlined, as_judged}
use native.Mathlib.Omega.{arith}
use Rattle.stanza_judge.proofs.judged_outline.Goals as goal

pub returns-then-s-gt8192 : goal.returns-then-s-gt8192
returns-then-s-gt8192 c = told_outlined _ _ 1 0 (omega arith) (judged_long _ c.if-s-gt8192.true)

pub returns : goal.returns
returns c =
    rw c.unpacked.ensures (as_judged (file_begun _ c.if-s-gt8192.false) c.judged_lines-r.ensures)
