use Rattle.std.proofs.Common.{◌≡◌, ◌≤◌, ◌+◌, ◌-◌, length, drop}
use Rattle.format.specs.Lists.{span}
use Rattle.text.proofs.run.far.Given as goal

-- The octets before j stand for themselves, and the run goes on with those that are left.
abbrev pub invariant-loop-j : goal.invariant-loop-j
invariant-loop-j g l = record {
  within : l.j ≤ length l.t;
  same_run : l.j + length (span g.P.Plain.plain (drop l.j l.t)).front ≡ length (span g.P.Plain.plain l.t).front;
}

abbrev pub decreases-loop-j : goal.decreases-loop-j
decreases-loop-j g l = length l.t - l.j
