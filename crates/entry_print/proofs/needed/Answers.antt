use mathlib.Core.Path.{refl}
use Rattle.format.proofs.Lists.{below_each}
use Rattle.catalogue.specs.Known.{names_in}
use Rattle.catalogue.proofs.Laws.{listed_sound}
use Rattle.stanza_form.specs.Code.{fields_of}
use Rattle.stanza_form.proofs.Codes.{codes_many}
use Rattle.entry_print.proofs.Printings.{fitting_needs, measured_needs, text_short}
use native.Mathlib.Omega.{arith}
use Rattle.entry_print.proofs.needed.Goals as goal

pub surely_fits-requires-clause-fields : goal.surely_fits-requires-clause-fields
surely_fits-requires-clause-fields c =
    omega (arith, c.requires.usable.within, codes_many c.args.codes.now)

pub returns-then-surely_fits-clause-needs : goal.returns-then-surely_fits-clause-needs
returns-then-surely_fits-clause-needs c =
    let k = c.args.c.now in
    let sound = listed_sound k.names.now k.types.now k.listed in
    let octets = below_each 256 c.args.p.now (λ j. omega (arith, c.type_inv.p j)) in
    fitting_needs _ _ (c.surely_fits.ensures c.if-surely_fits.true (names_in k) sound c.args.s.now c.args.p.now octets refl c.requires)
    (text_short (names_in k) sound c.args.s.now (fields_of c.args.codes.now) c.args.p.now octets c.requires)

pub returns-clause-needs : goal.returns-clause-needs
returns-clause-needs c =
    let k = c.args.c.now in
    let octets = below_each 256 c.args.p.now (λ j. omega (arith, c.type_inv.p j)) in
    measured_needs _ _ _ c.put_run.ensures.count
    (text_short (names_in k) (listed_sound k.names.now k.types.now k.listed) c.args.s.now (fields_of c.args.codes.now) c.args.p.now octets c.requires)
