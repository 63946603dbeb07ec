use Rattle.std.proofs.Common.{◌≡◌, ◌+◌, length, drop}
use Rattle.format.specs.Lists.{span}
use Rattle.text.proofs.run.near.Given as goal

-- The octets before i stand for themselves, and the run goes on with those that are left.
abbrev pub invariant-loop-i : goal.invariant-loop-i
invariant-loop-i g l = l.i + length (span g.P.Plain.plain (drop l.i l.t)).front ≡ length (span g.P.Plain.plain l.t).front
