use lib.Seq.{slice}
use lib.ListN.{length}
use Prim.Native.Nat.{◌-◌, ◌≤◌}
use mathlib.Core.Path.{◌≡◌}
use mathlib.Core.Bool.{true, false}
use Rattle.format.specs.Wire.{taken, string_count}
use Rattle.field_wire.proofs.Laws.{plus}
use Rattle.field_wire.proofs.strings.Given as goal

-- The field takes the strings before j, and then what more strings, or none, take from j on.
abbrev pub invariant-loop-j : goal.invariant-loop-j
invariant-loop-j l = (l.j ≤ length l.p) × (taken (string_count false) (slice 0 (length l.p) l.p) ≡ plus l.j (taken (string_count true) (slice l.j (length l.p) l.p)))

abbrev pub decreases-loop-j : goal.decreases-loop-j
decreases-loop-j l = length l.p - l.j
