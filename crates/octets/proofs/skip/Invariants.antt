use Rattle.std.proofs.Common.{◌≡◌, ◌+◌, length, drop}
use Rattle.format.specs.Lists.{span}
use Rattle.octets.specs.Octets.{in_class}
use Rattle.octets.proofs.skip.Given as goal

-- The octets before i are in the class, and the run goes on with those that are left.
abbrev pub invariant-loop-i : goal.invariant-loop-i
invariant-loop-i l = l.i + length (span (in_class l.c) (drop l.i l.xs)).front ≡ length (span (in_class l.c) l.xs).front
