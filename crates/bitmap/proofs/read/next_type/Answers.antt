use Rattle.std.proofs.Common.{arith}
use Rattle.std.proofs.lemmas.List.{take_rest}
use Rattle.format.specs.Octets.{blank}
use Rattle.octets.proofs.Slices.{span_length}
use Rattle.catalogue.specs.Known.{names_in}
use Rattle.catalogue.proofs.Laws.{listed_sound}
use Rattle.bitmap.proofs.Plain.{plain_types, plain_within}
use Rattle.bitmap.proofs.read.next_type.Goals as goal

pub slice_bounds-plain_type-count : goal.slice_bounds-plain_type-count
slice_bounds-plain_type-count c = omega (arith, c.skip-a.ensures, span_length blank c.args.t.now)

pub slice_bounds-plain_type-start : goal.slice_bounds-plain_type-start
slice_bounds-plain_type-start c = omega (arith, c.skip-a.ensures, span_length blank c.args.t.now)

pub returns-in-Some-clause-types : goal.returns-in-Some-clause-types
returns-in-Some-clause-types c =
    let k = c.args.c.now in
    plain_types (names_in k) (listed_sound k.names.now k.types.now k.listed) c.args.t.now c.skip-a.result _ _ c.skip-a.ensures (rw (take_rest c.args.t.now c.skip-a.result) at c.in-Some.ensures)

pub returns-in-Some-clause-within : goal.returns-in-Some-clause-within
returns-in-Some-clause-within c =
    let k = c.args.c.now in
    plain_within (names_in k) (listed_sound k.names.now k.types.now k.listed) c.args.t.now c.skip-a.result _ _ c.skip-a.ensures (rw (take_rest c.args.t.now c.skip-a.result) at c.in-Some.ensures)
