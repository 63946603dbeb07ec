use Rattle.stanza_stored.proofs.Strings.{Passed}
use lib.ListN.{length}
use Prim.Native.Nat.{◌-◌}
use Rattle.stanza_stored.proofs.cut_string.Given as goal

-- The strings before i are whole, and the next is number n.
abbrev pub invariant-loop-i : goal.invariant-loop-i
invariant-loop-i l = Passed l.s l.i l.n

abbrev pub decreases-loop-i : goal.decreases-loop-i
decreases-loop-i l = length l.s - l.i
