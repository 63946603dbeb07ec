use Rattle.std.proofs.Common.{◌&&◌, ◌≡◌, drop}
use Rattle.format.specs.Lists.{all_of}
use Rattle.octets.specs.Octets.{in_class}
use Rattle.octets.proofs.all_in.Given as goal

-- The octets so far, and those that are left, all pass exactly if the whole does.
abbrev pub invariant-loop-b : goal.invariant-loop-b
invariant-loop-b l = (l.all && all_of (in_class l.c) (drop l.b-index l.xs)) ≡ all_of (in_class l.c) l.xs
