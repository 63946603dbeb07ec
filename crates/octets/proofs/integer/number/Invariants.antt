use Rattle.std.proofs.Common.{◌≡◌, ◌<◌, ◌^◌, drop}
use Rattle.format.specs.Digits.{number, number_from}
use Rattle.octets.proofs.integer.number.Given as goal

-- The number so far has eight bits for each octet, and goes on to that of the whole.
abbrev pub invariant-loop-b : goal.invariant-loop-b
invariant-loop-b l = (l.v < 256 ^ l.b-index) × (number_from 256 l.v (drop l.b-index l.p) ≡ number 256 l.p)
