use Rattle.std.proofs.Common.{◌≡◌, take}
use Rattle.format.specs.Bitmap.{without_last_zeros}
use Rattle.bitmap_picture.proofs.count.Given as goal

-- The octets from n on are zero: the first n, without their last zeros, are the whole window without its last zeros.
abbrev pub invariant-loop-n : goal.invariant-loop-n
invariant-loop-n l = without_last_zeros (take l.n l.r) ≡ without_last_zeros l.r
