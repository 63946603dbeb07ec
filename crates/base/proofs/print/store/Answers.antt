use Rattle.std.proofs.Common.{get_or, refl, ◌∙◌, arith}
use Rattle.digits.proofs.Decimal.{last_digit}
use Rattle.base.proofs.print.store.Goals as goal

pub loop-i-preserved : goal.loop-i-preserved
loop-i-preserved g c =
    last_digit (λ d. get_or c.args.alphabet.now d 0) g.row.N c.loop-i.out _ c.args.at c.loop-i.i c.loop-i.x (omega arith) refl ∙ c.loop-i.invariant
