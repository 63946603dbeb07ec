use mathlib.Core.Path.{refl}
use Rattle.catalogue_judge.specs.Judging.{folded_table}
use Rattle.catalogue_judge.proofs.front.Goals as goal

pub front_by-requires-clause-folded : goal.front_by-requires-clause-folded
unfolding folded_table
front_by-requires-clause-folded c = refl
