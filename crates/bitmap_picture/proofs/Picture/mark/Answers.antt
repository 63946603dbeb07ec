use Rattle.std.proofs.Common.{arith}
use Rattle.bitmap_picture.proofs.Windows.{marked}
use Rattle.bitmap_picture.proofs.Picture.mark.Goals as goal

pub returns : goal.returns
returns c = λ ts p. marked c.args.self.now.windows c.args.self.now.top c.max-self.result c.args.v ts (omega arith) (omega (arith, c.max-self.ensures)) (omega (arith, c.max-self.ensures)) p
