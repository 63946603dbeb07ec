use Rattle.std.proofs.Common.{◌≡◌, take, get_or, false}
use Rattle.format.specs.Lists.{any_of}
use Rattle.catalogue_judge.specs.Judging.{same_as}
use Rattle.catalogue_judge.proofs.Numbered.exact_again.Given as goal

-- None of the first j names is the same.
abbrev pub invariant-loop-j : goal.invariant-loop-j
invariant-loop-j l = any_of (same_as l.self.names.now (get_or l.self.entries.now l.k 0)) (take l.j l.self.entries.now) ≡ false
