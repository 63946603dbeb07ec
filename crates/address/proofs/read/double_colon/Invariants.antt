use Rattle.std.proofs.Common.{◌-◌}
use Rattle.address.proofs.Doubled.{Passed}
use Rattle.address.proofs.read.double_colon.Given as goal

-- No double colon begins before i - 1: the first one from there on is the first one of the whole text.
abbrev pub invariant-loop-i : goal.invariant-loop-i
invariant-loop-i l = Passed l.t (l.i - 1)
