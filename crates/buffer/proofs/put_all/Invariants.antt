use Rattle.std.proofs.Common.{◌+◌, drop}
use Rattle.buffer.proofs.Laws.{Left}
use Rattle.buffer.proofs.put_all.Given as goal

-- The octets before i are stored: storing those that are left would store the whole.
abbrev pub invariant-loop-i : goal.invariant-loop-i
invariant-loop-i l = Left l.initial.out l.at l.xs l.out (l.at + l.i) (drop l.i l.xs)
