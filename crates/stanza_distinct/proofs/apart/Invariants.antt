use Prim.Native.Nat.{◌-◌, ◌≤◌}
use mathlib.Core.Path.{◌≡◌}
use mathlib.Core.Bool.{false}
use lib.ListN.{length}
use Rattle.stanza_words.specs.Qualifiers.{pieces_in, twice_in}
use Rattle.stanza_distinct.proofs.Buckets.{Clear}
use Rattle.stanza_distinct.proofs.apart.Given as goal

-- If the names from i to b have numbers not met before, and none occurs twice, then none occurs twice from a to b.
abbrev pub invariant-loop-met : goal.invariant-loop-met
invariant-loop-met l = record {
  within : l.i ≤ l.b;
  numbers : length l.met ≡ 256;
  once : Clear l.ignoring l.met (pieces_in l.s l.i l.b) → twice_in l.ignoring l.s l.i l.b ≡ false → twice_in l.ignoring l.s l.a l.b ≡ false;
}

abbrev pub decreases-loop-met : goal.decreases-loop-met
decreases-loop-met l = l.b - l.i
