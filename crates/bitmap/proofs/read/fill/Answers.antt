use Rattle.std.proofs.Common.{[], sym, arith}
use Rattle.buffer.proofs.Values.{after_none}
use Rattle.bitmap.proofs.read.fill.Goals as goal

pub loop-v-init : goal.loop-v-init
loop-v-init c = record { within = omega arith; held = ([], c.requires.empty, sym (after_none _)) }
