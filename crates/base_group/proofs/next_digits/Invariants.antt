use Rattle.std.proofs.Common.{◌^◌}
use Rattle.base_group.specs.Group.{Taken}
use Rattle.base_group.proofs.next_digits.Given as goal

-- The octets so far are digits, and make v.
abbrev pub invariant-loop-j : goal.invariant-loop-j
invariant-loop-j g l = Taken l.alphabet.numbers.now l.alphabet.skip (2 ^ g.row.W) l.t l.j l.j l.v
