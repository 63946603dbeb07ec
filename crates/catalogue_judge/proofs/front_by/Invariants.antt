use Rattle.catalogue_judge.proofs.Fronts.{Going}
use Rattle.catalogue_judge.proofs.front_by.Given as goal

-- The first i entries are good in themselves, and they rise up to `low`.
abbrev pub invariant-loop-i : goal.invariant-loop-i
invariant-loop-i l = Going l.names l.entries l.hashes l.low l.i
