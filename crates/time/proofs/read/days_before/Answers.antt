use Rattle.time.proofs.Moments.{days_before_lem}
use Rattle.time.specs.Years.{days_in}
use mathlib.Core.Path.{◌∙◌, ap}
use Prim.Native.Nat.{◌-◌}
use Rattle.time.proofs.read.days_before.Goals as goal

pub returns-clause-value : goal.returns-clause-value
returns-clause-value c =
    days_before_lem c.args.year c.args.month _ _ c.requires.first c.requires.january c.requires.december c.year_start.ensures.value
    (c.month_start.ensures.value ∙ ap (λ b. days_in b (c.args.month - 1)) c.leap.ensures)
