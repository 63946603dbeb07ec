use Rattle.std.proofs.Common.{drop}
use Rattle.format.specs.Lists.{flat_map}
use Rattle.format.specs.Name.{name_escape}
use Rattle.buffer.proofs.Laws.{Left}
use Rattle.name.proofs.print.escaped.Given as goal

-- The octets so far are escaped and written; writing the others from m on would give the whole text.
abbrev pub invariant-loop-b : goal.invariant-loop-b
invariant-loop-b l = Left l.initial.out l.at (flat_map name_escape l.p) l.out l.m (flat_map name_escape (drop l.b-index l.p))
