use Rattle.std.proofs.Common.{length}
use Rattle.parts.proofs.+sort.Given as goal

-- proposed from what the function passes where it calls itself
abbrev pub decreases-sort : goal.decreases-sort
decreases-sort l = length l.parts.now
