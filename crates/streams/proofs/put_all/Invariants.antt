use Rattle.std.proofs.Common.{length}
use Rattle.streams.proofs.Writing.{Upto}
use Rattle.streams.proofs.put_all.Given as goal

-- The first octets were written, and nothing else.
abbrev pub invariant-loop-rest : goal.invariant-loop-rest
invariant-loop-rest g l =
    Upto (g.W.Write.contents l.initial.to) (g.W.Write.contents l.to) l.xs l.rest

abbrev pub decreases-loop-rest : goal.decreases-loop-rest
decreases-loop-rest g l = length l.rest
