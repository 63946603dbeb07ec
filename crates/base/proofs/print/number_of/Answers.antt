use Rattle.std.proofs.Common.{get_or, ◌<◌, arith}
use Rattle.base.proofs.Digits.{next_octet, few_octets, more_octets_lem}
use Rattle.base.proofs.print.number_of.Goals as goal

pub overflow_mul-v : goal.overflow_mul-v
overflow_mul-v g c = record { fits = omega (arith, few_octets c.loop-b.b-index c.loop-b.v (omega arith) c.loop-b.invariant.small) }

pub overflow_add-v : goal.overflow_add-v
overflow_add-v g c = record { fits = omega (arith, few_octets c.loop-b.b-index c.loop-b.v (omega arith) c.loop-b.invariant.small) }

pub loop-b-preserved : goal.loop-b-preserved
loop-b-preserved g c =
    let b : get_or c.args.xs.now c.loop-b.b-index 0 < 256 = omega arith in record {
      small = rw c.from.ensures (more_octets_lem _ _ _ c.loop-b.invariant.small b);
      same = rw c.from.ensures (next_octet c.args.xs.now c.loop-b.v c.loop-b.b-index _ (omega arith) b c.loop-b.invariant.same);
    }
