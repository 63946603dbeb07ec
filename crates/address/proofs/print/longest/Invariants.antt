use Rattle.std.proofs.Common.{◌+◌, ◌-◌, ◌≤◌, ◌≡◌, drop}
use Rattle.format.specs.Address.{groups, zeros_at}
use Rattle.address.specs.Zeros.{Longest}
use Rattle.address.proofs.print.longest.Given as goal

-- From the group k on there are first z zero groups, and `run` is the first of the longest runs of zero groups.
abbrev pub invariant-loop-k : goal.invariant-loop-k
invariant-loop-k l =
    (l.k ≤ l.run.at) × (l.z + l.k ≤ 8) × (l.z ≡ zeros_at (drop l.k (groups l.p))) × Longest (drop l.k (groups l.p)) (l.run.at - l.k) l.run.count
