use mathlib.Core.Path.{subst}
use native.Mathlib.Omega.{arith}
use lib.ListN.{length-take}
use Rattle.format.specs.Entries.{Outcome}
use Rattle.catalogue_pack.specs.Packed.{parallel}
use Rattle.catalogue_pack.proofs.Rows.{packed_within}
use Rattle.catalogue_pack.proofs.Whole.{read_whole}
use Rattle.entry.specs.Entries.{Leaves}
use Rattle.entry_named.proofs.read_named.Goals as goal

pub slice_bounds-raw-end : goal.slice_bounds-raw-end
slice_bounds-raw-end c = packed_within _ _ _ _ c.pack-n.ensures

pub slice_bounds-read_with-end : goal.slice_bounds-read_with-end
slice_bounds-read_with-end c =
    omega (arith, length-take c.pack-n.result c.pack-n.new.raw, packed_within (parallel c.args.numbers.now c.args.starts.now c.args.lengths.now) _ _ _ c.pack-n.ensures)

-- only 513 entries are packed, and the answer is that with all of them
pub returns : goal.returns
returns c =
    let a = c.args in
    subst (λ (o : Outcome). Leaves c.read_with.result c.read_with.new.out o)
    (read_whole (parallel a.numbers.now a.starts.now a.lengths.now) _ _ _ c.pack-n.ensures a.stanza.now a.first a.length a.names.now a.origin.now a.text.now a.out.now a.at) c.read_with.ensures
