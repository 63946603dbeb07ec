use Rattle.bitmap_picture.proofs.Windows.{blank}
use Rattle.bitmap_picture.proofs.Picture.empty.Goals as goal

pub returns : goal.returns
returns c = blank
