use Prim.Native.Nat.{◌-◌}
use lib.ListN.{length, drop}
use Rattle.tokens.specs.Tokens.{standing}
use Rattle.tokens.proofs.Scans.{Kept, Stopped}
use Rattle.tokens.proofs.token.Given as goal

-- The scan keeps the octets from a to j and goes on from j, where the text ends or an octet does not stand for itself.
abbrev pub invariant-loop-j : goal.invariant-loop-j
invariant-loop-j l = Kept l.t l.q l.i l.j × Stopped (standing l.q) (drop l.j l.t)

abbrev pub decreases-loop-j : goal.decreases-loop-j
decreases-loop-j l = length l.t - l.j
