use Rattle.std.proofs.Common.{arith}
use Rattle.bitmap_picture.proofs.Windows.{next_block, no_more}
use Rattle.buffer.proofs.Laws.{left_all, left_piece, left_none}
use Rattle.bitmap_picture.proofs.Picture.put_blocks.Goals as goal

pub loop-w-init : goal.loop-w-init
loop-w-init c = record { room = omega arith; left = λ ts p. left_all _ _ _ }

pub loop-w-preserved : goal.loop-w-preserved
loop-w-preserved c =
    record {
      room = omega arith;
      left = λ ts p. left_piece _ _ _ _ (c.loop-w.invariant.left ts p) (next_block c.args.self.now.windows c.args.self.now.top ts p c.loop-w.w (omega arith))
          c.put_block-k.ensures.block;
    }

pub returns : goal.returns
returns c =
    λ ts p. left_none (c.loop-w.invariant.left ts p)
    (no_more c.args.self.now.windows c.args.self.now.top ts p c.loop-w.w (omega arith))
