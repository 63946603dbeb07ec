use Prim.Native.Nat.{◌/◌, ◌%◌}
use mathlib.Core.Path.{ap, ◌∙◌}
use Rattle.format.specs.Time.{day_of, time_text}
use Rattle.buffer.proofs.Laws.{wrote_text}
use Rattle.time.proofs.Days.{moment_of_lem}
use Rattle.time.proofs.print.field.Goals as goal

pub returns : goal.returns
returns c =
    let v = c.number-v.result in
    wrote_text _ _
    (moment_of_lem (day_of (v / 86400)) _ _ (v % 86400) c.day_of.ensures.month c.day_of.ensures.day ∙ ap time_text c.number-v.ensures.value)
    c.moment.ensures
