use Prim.Native.Nat.{◌-◌, ◌≤◌}
use mathlib.Core.Path.{◌≡◌}
use lib.ListN.{length}
use Rattle.tokens.specs.Tokens.{front_end}
use Rattle.tokens.proofs.skip_long.Given as goal

-- The octets from i to j stand for themselves: the run from j on ends where the run from i does.
abbrev pub invariant-loop-j : goal.invariant-loop-j
invariant-loop-j l = (l.j ≤ length l.t) × (front_end l.q l.t l.j (length l.t) ≡ front_end l.q l.t l.i (length l.t))

abbrev pub decreases-loop-j : goal.decreases-loop-j
decreases-loop-j l = length l.t - l.j
