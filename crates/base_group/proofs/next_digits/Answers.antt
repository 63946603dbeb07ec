use Rattle.std.proofs.Common.{get_or, arith}
use Rattle.base_group.proofs.GroupDigits.{taken_none, taken_next, taken_room, digit_kept}
use Rattle.base_group.proofs.next_digits.Goals as goal

pub loop-j-init : goal.loop-j-init
loop-j-init g c = taken_none _ _ _ _

pub overflow_mul-v : goal.overflow_mul-v
overflow_mul-v g c = record { fits = omega (arith, taken_room _ _ _ _ _ _ _ _ c.loop-j.invariant c.power-base.ensures (omega arith) (omega arith)) }

pub overflow_add-v : goal.overflow_add-v
overflow_add-v g c = record { fits = omega (arith, taken_room _ _ _ _ _ _ _ _ c.loop-j.invariant c.power-base.ensures (omega arith) (omega arith)) }

pub loop-j-preserved : goal.loop-j-preserved
loop-j-preserved g c =
    taken_next _ _ _ _ _ _ _ _ _ c.loop-j.invariant (omega arith)
    (digit_kept c.args.alphabet.numbers.now c.args.alphabet.skip c.power-base.result c.number_of-x.result (get_or c.args.t.now c.loop-j.j 0) c.number_of-x.ensures c.if-base-x.false (omega (arith, c.power-base.ensures))) c.number_of-x.ensures c.power-base.ensures c.if-base-x.false
