use mathlib.Core.Path.{◌∙◌}
use Rattle.extlang.proofs.extlang_print.Goals as goal

pub returns : goal.returns
returns c =
    let a = c.print-r.ensures in
    record { numbers = c.packed.ensures.number ∙ a.numbers; places = c.packed.ensures.place ∙ a.places; octets = a.octets }
