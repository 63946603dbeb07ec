use Rattle.std.proofs.Common.{ℕ, ◌+◌, ◌-◌, ◌*◌, ◌≤◌, List}
use Rattle.format.specs.Bitmap.{blocks_from, blocks}
use Rattle.buffer.proofs.Laws.{Left}
use Rattle.bitmap_picture.specs.Windows.{Holds}
use Rattle.bitmap_picture.proofs.Picture.put_blocks.Given as goal

-- The blocks of the windows before w are written; writing those of the others from k on would give all blocks.
abbrev pub invariant-loop-w : goal.invariant-loop-w
invariant-loop-w l = record {
  room : l.k ≤ l.at + 34 * l.w;
  left : (ts : List ℕ) → Holds l.self.windows l.self.top ts → Left l.initial.out l.at (blocks ts) l.out l.k (blocks_from ts l.w (256 - l.w));
}
