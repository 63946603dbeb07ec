use mathlib.Core.Path.{◌∙◌, subst}
use native.Mathlib.Omega.{arith}
use lib.ListN.{length-take}
use Rattle.format.specs.Entries.{Outcome}
use Rattle.entry.specs.Entries.{Leaves}
use Rattle.catalogue_pack.specs.Packed.{entries_of}
use Rattle.catalogue_pack.proofs.Rows.{packed_within}
use Rattle.catalogue_pack.proofs.Whole.{print_whole}
use Rattle.extlang.proofs.extlang_print_named.Goals as goal

pub slice_bounds-raw-end : goal.slice_bounds-raw-end
slice_bounds-raw-end c = packed_within (entries_of c.args.entries.now) _ _ _ c.packed-n.ensures

pub slice_bounds-print_with-end : goal.slice_bounds-print_with-end
slice_bounds-print_with-end c =
    omega (arith, length-take c.packed-n.result c.packed-n.new.raw, packed_within (entries_of c.args.entries.now) _ _ _ c.packed-n.ensures)

-- only 513 entries are packed, and the answer is that with all of them
pub returns : goal.returns
returns c =
    let a = c.args in
    let p =
    subst (λ (o : Outcome). Leaves c.print_with-r.result c.print_with-r.new.out o)
    (print_whole (entries_of a.entries.now) _ _ _ c.packed-n.ensures a.stanza.now a.first a.length a.names.now a.rdata.now a.out.now a.at)
    c.print_with-r.ensures
    in
    record { numbers = c.packed.ensures.number ∙ p.numbers; places = c.packed.ensures.place ∙ p.places; octets = p.octets }
