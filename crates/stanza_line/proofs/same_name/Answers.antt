use native.Mathlib.Omega.{arith}
use Rattle.stanza_line.proofs.Laws.{same_there}
use Rattle.stanza_line.proofs.same_name.Goals as goal

pub returns-then-t-lt16 : goal.returns-then-t-lt16
returns-then-t-lt16 c =
    same_there c.args.s.now c.args.t.now c.args.x.at c.args.x.end c.from-a.result _ _ (omega arith) (omega arith) (omega arith)
    c.same.ensures

pub returns : goal.returns
returns c =
    same_there c.args.s.now c.args.t.now c.args.x.at c.args.x.end c.from-a.result _ _ (omega arith) (omega arith) (omega arith)
    c.same_long.ensures
