use Rattle.base.proofs.Base64Rest.{base64_fault, base64_missing, base64_got}
use Rattle.base.proofs.read.base64_rest.Goals as goal

pub returns-in_default : goal.returns-in_default
returns-in_default c = base64_fault c.args.t.now c.in_default.ensures

pub returns-then-m-at : goal.returns-then-m-at
returns-then-m-at c = base64_missing c.args.t.now _ _ _ _ c.in-Some.ensures c.if-m-at.true

pub returns : goal.returns
returns c = base64_got c.args.t.now _ _ _ _ c.in-Some.ensures c.if-m-at.false
