use Rattle.std.proofs.Common.{sym, ◌∙◌, arith}
use borrow.Author.Tests.{eq-eqb, ne_eqb}
use Rattle.base_group.proofs.GroupDigits.{taken_none, taken_left, taken_next, taken_room}
use Rattle.base_group.proofs.some_digits.Goals.{then-x-alphabet+else-count+else-base-x, else-x-alphabet}
use Rattle.base_group.proofs.some_digits.Goals as goal

pub loop-taken-init : goal.loop-taken-init
loop-taken-init g c = record { digits = taken_none _ _ _ _; few = omega arith }

pub overflow_mul-number : goal.overflow_mul-number
overflow_mul-number g c = record { fits = omega (arith, taken_room _ _ _ _ _ _ _ _ c.loop-taken.invariant.digits c.power-base.ensures (omega arith) (omega arith)) }

pub overflow_add-number : goal.overflow_add-number
overflow_add-number g c = record { fits = omega (arith, taken_room _ _ _ _ _ _ _ _ c.loop-taken.invariant.digits c.power-base.ensures (omega arith) (omega arith)) }

pub loop-taken-preserved : goal.loop-taken-preserved
loop-taken-preserved g c =
    elim c.if-x-alphabet.branch [
      | then-x-alphabet+else-count+else-base-x w ↦ record {
        digits = rw (w.count-is, w.number-is)
            (taken_next _ _ _ _ _ _ _ _ _ c.loop-taken.invariant.digits (omega arith)
            (ne_eqb _ _ (λ z. w.if-x-alphabet.true (c.number_of-x.ensures ∙ z))) c.number_of-x.ensures c.power-base.ensures w.if-base-x.false);
        few = omega arith;
      }
      | else-x-alphabet w ↦ record {
        digits = rw (w.count-is, w.number-is)
            (taken_left _ _ _ _ _ _ _ c.loop-taken.invariant.digits (omega arith)
            (eq-eqb _ _ (sym c.number_of-x.ensures ∙ w.if-x-alphabet.false)));
        few = omega arith;
      }
    ]
