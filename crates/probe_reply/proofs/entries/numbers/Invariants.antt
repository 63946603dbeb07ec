use Rattle.std.proofs.Common.{◌≡◌, take}
use Rattle.catalogue.specs.Entries.{entries_at}
use Rattle.probe_reply.specs.Entries.{entries_from}
use Rattle.probe_reply.proofs.entries.numbers.Given as goal

-- The numbers of the first i entries are stored.
abbrev pub invariant-loop-i : goal.invariant-loop-i
invariant-loop-i l = entries_at (take l.i l.raw) ≡ entries_from l.i l.xs
