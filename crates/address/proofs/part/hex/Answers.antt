use mathlib.Core.Path.{sym, ◌∙◌}
use native.Mathlib.Omega.{arith}
use lib.ListN.{get_or}
use Rattle.address.proofs.Numbers.{hex_start, hex_off, hex_on, hex_end, hex_more, hex_fits, digit_below}
use Rattle.address.proofs.part.hex.Goals as goal

pub overflow_mul-v : goal.overflow_mul-v
overflow_mul-v c = omega (arith, hex_fits c.loop-b.v c.loop-b.b-index (omega arith) c.loop-b.invariant.0)

pub overflow_add-v : goal.overflow_add-v
overflow_add-v c = omega (arith, hex_fits c.loop-b.v c.loop-b.b-index (omega arith) c.loop-b.invariant.0, c.from.ensures)

pub returns-in_err-d : goal.returns-in_err-d
returns-in_err-d c =
    rw c.from_residual.ensures
    (sym (hex_off c.args.t.now c.loop-b.b-index c.loop-b.v c.loop-b-test.true (sym c.hex_value.ensures ∙ c.in_err-d.was)) ∙ c.loop-b.invariant.1 ∙ hex_start c.args.t.now)

pub loop-b-preserved : goal.loop-b-preserved
loop-b-preserved c =
    let d = sym c.hex_value.ensures ∙ c.in_ok-d.was in
    rw c.from.ensures (
      hex_more c.loop-b.v c.loop-b.b-index _ c.loop-b.invariant.0 (digit_below 16 (get_or c.args.t.now c.loop-b.b-index 0) _ d),
      sym (hex_on c.args.t.now c.loop-b.b-index c.loop-b.v c.loop-b-test.true _ d) ∙ c.loop-b.invariant.1,
    )

pub returns : goal.returns
returns c =
    sym (hex_end c.args.t.now c.loop-b.b-index c.loop-b.v c.loop-b-test.false) ∙ c.loop-b.invariant.1 ∙ hex_start c.args.t.now
