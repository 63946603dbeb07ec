use mathlib.Core.Path.{sym, ◌∙◌}
use Rattle.address.proofs.Numbers.{is_small}
use Rattle.address.proofs.part.small.Goals as goal

pub returns : goal.returns
returns c =
    is_small c.args.t.now c.in_ok-v.v (sym c.decimal.ensures ∙ c.in_ok-v.was) c.if-v-gt255.false (sym c.zero_first.ensures ∙ c.if-zero_first.false)
