use mathlib.Core.Path.{sym, ◌∙◌}
use Rattle.catalogue.specs.Known.{names_in}
use Rattle.catalogue.proofs.Laws.{listed_sound, number_first}
use Rattle.rrtype.proofs.Types.{other_number}
use Rattle.rrtype.proofs.read.number.Goals as goal

pub returns-in-Some : goal.returns-in-Some
returns-in-Some c =
    let k = c.args.c.now in
    sym (number_first (names_in k) (listed_sound k.names.now k.types.now k.listed) c.args.t.now _ (sym c.plain.ensures ∙ c.in-Some.is))

pub returns-in-None : goal.returns-in-None
returns-in-None c =
    c.named.ensures ∙ sym (other_number (names_in c.args.c.now) c.args.t.now (sym c.plain.ensures ∙ c.in-None.is))
