use Rattle.catalogue_pack.specs.Packed.{parallel}
use Rattle.catalogue_pack.proofs.Rows.{Stored}
use Rattle.catalogue_pack.proofs.pack.Given as goal

-- i entries are packed
abbrev pub invariant-loop-i : goal.invariant-loop-i
invariant-loop-i l = Stored (parallel l.numbers l.starts l.lengths) l.initial.raw l.raw l.i
