use mathlib.Core.Path.{◌≡◌}
use Prim.Native.Nat.{◌+◌, ◌*◌, ◌-◌, ◌≤◌}
use lib.ListN.{length, drop}
use Rattle.format.specs.Token.{tokens}
use Rattle.field_read.proofs.Texts.{Before}
use Rattle.field_read.proofs.strings.Given as goal

-- The strings of the tokens before j stand from n to m; they, and the strings read from j on, are all the strings.
abbrev pub invariant-loop-p : goal.invariant-loop-p
invariant-loop-p l =
    (l.at ≤ l.m) × (l.i ≤ l.j) × (l.j ≤ length l.t) × (l.m ≤ l.at + 256 * (l.j - l.i)) × Before l.initial.out l.out l.at l.m (tokens (drop l.i l.t)) (tokens (drop l.j l.t))
    × (length l.out ≡ length l.initial.out)

abbrev pub decreases-loop-p : goal.decreases-loop-p
decreases-loop-p l = length l.t - l.j
