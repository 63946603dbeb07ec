use Prim.Native.Nat.{◌+◌, ◌-◌, ◌≤◌}
use mathlib.Core.Path.{◌≡◌}
use lib.ListN.{length}
use Rattle.stanza_distinct.proofs.Stored.{Naming}
use Rattle.stanza_distinct.proofs.names.Given as goal

-- The first n parts of the lists and the names from i to b are the names from a to b.
abbrev pub invariant-loop-a : goal.invariant-loop-a
invariant-loop-a l = record {
  within : l.i ≤ l.b;
  few : l.n + l.a ≤ l.i;
  list_long : length l.list ≡ length l.initial.list;
  other_long : length l.other ≡ length l.initial.other;
  naming : Naming l.s l.a l.b l.list l.other l.n l.i;
}

abbrev pub decreases-loop-a : goal.decreases-loop-a
decreases-loop-a l = l.b - l.i
