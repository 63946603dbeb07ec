use Rattle.catalogue_pack.specs.Packed.{entries_of}
use Rattle.catalogue_pack.proofs.Rows.{Stored}
use Rattle.catalogue_pack.proofs.packed.Given as goal

-- i entries are packed
abbrev pub invariant-loop-i : goal.invariant-loop-i
invariant-loop-i l = Stored (entries_of l.es) l.initial.raw l.raw l.i
