use Rattle.std.proofs.Common.{length, ap, ◌∙◌, arith}
use Rattle.bitmap_picture.proofs.Windows.{zero_off, kept}
use Rattle.bitmap_picture.proofs.count.Goals as goal

pub returns-then-r-n-ne0 : goal.returns-then-r-n-ne0
returns-then-r-n-ne0 c =
    kept c.args.r.now c.loop-n.n (omega arith) (omega arith) c.if-r-n-ne0.true ∙ ap length c.loop-n.invariant

pub loop-n-preserved : goal.loop-n-preserved
loop-n-preserved c =
    zero_off c.args.r.now c.loop-n.n (omega arith) (omega arith) c.if-r-n-ne0.false ∙ c.loop-n.invariant
