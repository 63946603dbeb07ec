use Rattle.std.proofs.Common.{length, ◌-◌}
use Rattle.base_group.specs.Group.{Groups}
use Rattle.base_group.proofs.groups.Given as goal

-- The whole groups in the first `from` octets are stored up to `end`.
abbrev pub invariant-loop-last : goal.invariant-loop-last
invariant-loop-last g l = Groups l.initial.out l.out l.at l.alphabet.numbers.now l.alphabet.skip g.row.W g.row.K l.t l.from l.end

abbrev pub decreases-loop-last : goal.decreases-loop-last
decreases-loop-last g l = length l.t - l.from
