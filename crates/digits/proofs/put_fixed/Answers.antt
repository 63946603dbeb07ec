use Rattle.buffer.proofs.Laws.{wrote_text}
use Rattle.digits.proofs.Decimal.{decimal_digits}
use Rattle.digits.proofs.put_fixed.Goals as goal

pub returns : goal.returns
returns c = wrote_text _ _ (decimal_digits c.args.w c.args.v) c.put_digits.ensures
