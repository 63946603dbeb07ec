use Rattle.std.proofs.Common.{◌+◌, ◌∙◌}
use Rattle.digits.proofs.Decimal.{last_digit, all_stored}
use Rattle.digits.proofs.put_digits.Goals as goal

pub loop-k-preserved : goal.loop-k-preserved
loop-k-preserved g c =
    last_digit (λ d. g.row.ZERO + d) g.row.B _ _ c.args.at c.loop-k.k c.loop-k.x c.loop-k-test.true c.put.ensures ∙ c.loop-k.invariant

pub returns : goal.returns
returns g c = all_stored (λ d. g.row.ZERO + d) g.row.B _ _ _ c.args.w _ c.loop-k.k c.loop-k.x c.loop-k-test.false c.loop-k.invariant
