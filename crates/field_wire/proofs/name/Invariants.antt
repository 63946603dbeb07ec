use lib.Seq.{slice}
use lib.ListN.{length}
use Prim.Native.Nat.{◌-◌, ◌≤◌}
use mathlib.Core.Path.{◌≡◌}
use mathlib.Core.Bool.{false}
use Rattle.format.specs.Wire.{taken, label_length}
use Rattle.field_wire.proofs.Laws.{plus}
use Rattle.field_wire.proofs.name.Given as goal

-- The name takes the labels before j, and then what the rest of a name, after these octets, takes from j on.
abbrev pub invariant-loop-j : goal.invariant-loop-j
invariant-loop-j l =
    (l.j ≤ length l.p) × (l.j ≤ 255)
    × (taken (label_length l.optional 0) (slice 0 (length l.p) l.p) ≡ plus l.j (taken (label_length false l.j) (slice l.j (length l.p) l.p)))

abbrev pub decreases-loop-j : goal.decreases-loop-j
decreases-loop-j l = length l.p - l.j
