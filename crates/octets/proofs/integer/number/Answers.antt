use mathlib.Core.Path.{sym, ap, ◌∙◌}
use native.Mathlib.Omega.{arith}
use Rattle.format.specs.Digits.{number_from}
use Rattle.format.proofs.Lists.{drop_next, drop_none}
use Rattle.octets.proofs.Integers.{one_more_octet, octets_fit}
use Rattle.octets.proofs.integer.number.Goals as goal

pub overflow_mul-v : goal.overflow_mul-v
overflow_mul-v c = omega (arith, octets_fit c.loop-b.v c.loop-b.b-index 4 (omega arith) c.loop-b.invariant.0)

pub overflow_add-v : goal.overflow_add-v
overflow_add-v c = omega (arith, octets_fit c.loop-b.v c.loop-b.b-index 4 (omega arith) c.loop-b.invariant.0)

pub returns-clause-small : goal.returns-clause-small
returns-clause-small c = omega (arith, octets_fit c.loop-b.v c.loop-b.b-index 4 (omega arith) c.loop-b.invariant.0)

pub loop-b-preserved : goal.loop-b-preserved
loop-b-preserved c = (
  one_more_octet c.loop-b.v c.loop-b.b-index _ c.loop-b.invariant.0 (omega (arith, c.from.ensures, c.type_inv.p c.loop-b.b-index)),
  rw c.from.ensures (ap (number_from 256 c.loop-b.v) (sym (drop_next c.args.p.now c.loop-b.b-index c.loop-b-test.true)) ∙ c.loop-b.invariant.1),
)

pub returns-clause-value : goal.returns-clause-value
returns-clause-value c =
    ap (number_from 256 c.loop-b.v) (sym (drop_none c.args.p.now c.loop-b.b-index c.loop-b-test.false)) ∙ c.loop-b.invariant.1
