use Rattle.digits.proofs.Decimal.{few_digits, as_many_digits}
use Rattle.digits.proofs.digit_count.Goals as goal

pub returns-clause-small : goal.returns-clause-small
returns-clause-small c = few_digits c.ilog10.result c.args.v c.ilog10.ensures.power_le c.requires

pub returns-clause-digits : goal.returns-clause-digits
returns-clause-digits c = as_many_digits c.ilog10.result c.args.v c.ilog10.ensures.power_le c.ilog10.ensures.next_power_gt c.requires
