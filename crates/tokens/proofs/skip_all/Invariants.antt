use Rattle.std.proofs.Common.{◌≡◌, ◌+◌, length, drop}
use Rattle.format.specs.Lists.{span}
use Rattle.tokens.specs.Tokens.{standing}
use Rattle.tokens.proofs.skip_all.Given as goal

-- The octets before i stand for themselves, and the run goes on with those that are left.
abbrev pub invariant-loop-i : goal.invariant-loop-i
invariant-loop-i l = l.i + length (span (standing l.q) (drop l.i l.t)).front ≡ length (span (standing l.q) l.t).front
