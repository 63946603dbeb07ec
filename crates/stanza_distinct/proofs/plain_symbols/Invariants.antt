use Prim.Native.Nat.{◌-◌, ◌≤◌}
use mathlib.Core.Path.{◌≡◌}
use mathlib.Core.Bool.{true, false}
use lib.ListN.{length}
use Rattle.stanza_words.specs.declared.Test.TheVariants.{NotSymbol}
use Rattle.stanza_words.specs.Qualifiers.{pieces_in, any_in, twice_in}
use Rattle.stanza_distinct.proofs.Buckets.{Clear}
use Rattle.stanza_distinct.proofs.plain_symbols.Given as goal

-- Some qualifier from i to b is no symbol below the limit exactly if one from a to b is none; and if the names from
-- i on have numbers not met before, and none occurs twice, then none occurs twice from a to b.
abbrev pub invariant-loop-x : goal.invariant-loop-x
invariant-loop-x l = record {
  within : l.i ≤ l.b;
  numbers : length l.met ≡ 256;
  plain : any_in (NotSymbol l.limit) l.s l.i l.b ≡ any_in (NotSymbol l.limit) l.s l.a l.b;
  once : Clear true l.met (pieces_in l.s l.i l.b) → twice_in true l.s l.i l.b ≡ false → twice_in true l.s l.a l.b ≡ false;
}

abbrev pub decreases-loop-x : goal.decreases-loop-x
decreases-loop-x l = l.b - l.i
