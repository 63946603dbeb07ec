use Rattle.std.proofs.Common.{◌&&◌, ◌≡◌, drop}
use Rattle.format.specs.Lists.{all_of}
use Rattle.bitmap_picture.specs.Windows.{zero_octet}
use Rattle.bitmap_picture.proofs.is_empty.Given as goal

-- The octets so far, and those that are left, are all zero exactly if those of the whole window are.
abbrev pub invariant-loop-x : goal.invariant-loop-x
invariant-loop-x l = (l.all && all_of zero_octet (drop l.x-index l.r)) ≡ all_of zero_octet l.r
