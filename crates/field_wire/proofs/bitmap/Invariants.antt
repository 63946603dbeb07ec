use lib.Seq.{slice}
use lib.ListN.{length}
use Prim.Native.Nat.{◌-◌, ◌≤◌}
use mathlib.Core.Path.{◌≡◌}
use Rattle.format.specs.Wire.{taken, window}
use Rattle.field_wire.proofs.Laws.{plus}
use Rattle.field_wire.proofs.bitmap.Given as goal

-- The field takes the octets before j, and then what blocks with windows of at least lo take from j on.
abbrev pub invariant-loop-j : goal.invariant-loop-j
invariant-loop-j l =
    (l.j ≤ length l.p) × (l.lo ≤ 256) × (taken (window 0) (slice 0 (length l.p) l.p) ≡ plus l.j (taken (window l.lo) (slice l.j (length l.p) l.p)))

abbrev pub decreases-loop-j : goal.decreases-loop-j
decreases-loop-j l = length l.p - l.j
