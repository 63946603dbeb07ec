use Rattle.std.proofs.Common.{◌^◌, ◌≤◌}
use Rattle.base_group.specs.Group.{Taken}
use Rattle.base_group.proofs.some_digits.Given as goal

-- The octets so far hold `count` digits, which make `number`.
abbrev pub invariant-loop-taken : goal.invariant-loop-taken
invariant-loop-taken g l = record {
  digits : Taken l.alphabet.numbers.now l.alphabet.skip (2 ^ g.row.W) l.t l.taken l.count l.number;
  few : l.count ≤ g.row.K;
}
