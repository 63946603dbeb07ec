use Rattle.std.proofs.Common.{◌≡◌, ◌≤◌, ◌-◌, length, take, true}
use Rattle.format.specs.Lists.{all_of}
use Rattle.octets.specs.Octets.{in_class}
use Rattle.octets.specs.declared.Class.TheVariants.{FreeText}
use Rattle.octets.proofs.long_free.Given as goal

-- All octets before j are free text.
abbrev pub invariant-loop-j : goal.invariant-loop-j
invariant-loop-j l = (l.j ≤ length l.xs) × (all_of (in_class FreeText) (take l.j l.xs) ≡ true)

abbrev pub decreases-loop-j : goal.decreases-loop-j
decreases-loop-j l = length l.xs - l.j
