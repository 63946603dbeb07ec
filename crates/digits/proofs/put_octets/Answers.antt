use Rattle.buffer.proofs.Laws.{wrote_text}
use Rattle.format.specs.Digits.{digits}
use Rattle.digits.proofs.Decimal.{map_zero}
use Rattle.digits.proofs.put_octets.Goals as goal

pub returns : goal.returns
returns c = wrote_text _ _ (map_zero (digits 256 c.args.w c.args.v)) c.put_digits.ensures
