use Rattle.std.proofs.Common.{◌≤◌}
use Rattle.probe.proofs.run.Given as goal

-- At most one octet more than the longest request is kept; nothing is claimed of what is written.
abbrev pub invariant-loop : goal.invariant-loop
invariant-loop l = l.kept ≤ 2200001
