use Rattle.std.proofs.Common.{sym, arith}
use Rattle.catalogue.specs.Known.{names_in}
use Rattle.catalogue.proofs.Laws.{listed_sound}
use Rattle.bitmap.proofs.Plain.{number_low}
use Rattle.bitmap.proofs.read.token_type.Goals as goal

pub returns-in-Some-number-clause-within : goal.returns-in-Some-number-clause-within
returns-in-Some-number-clause-within c =
    let k = c.args.c.now in
    let w = rw c.in-Some-Bare.field-0-is at c.in-Some-Bare.ensures.within in
    (number_low (names_in k) (listed_sound k.names.now k.types.now k.listed) _ _ (sym c.in-Some-number.ensures), omega (arith, w), omega (arith, w))
