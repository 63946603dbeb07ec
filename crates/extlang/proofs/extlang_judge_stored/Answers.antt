use mathlib.Core.Path.{◌∙◌}
use Rattle.extlang.proofs.extlang_judge_stored.Goals as goal

pub returns : goal.returns
returns c =
    let j = c.judge_stored-r.ensures in
    record { numbers = c.packed.ensures.number ∙ j.numbers; places = c.packed.ensures.place ∙ j.places }
