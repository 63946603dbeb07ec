use Rattle.std.proofs.Common.{◌≡◌, ◌<◌, ◌^◌, drop}
use Rattle.octets.proofs.Numbers.{value_from}
use Rattle.octets.proofs.decimal.Given as goal

-- The value so far has a digit for each octet, and goes on to that of the whole.
abbrev pub invariant-loop-b : goal.invariant-loop-b
invariant-loop-b l = (l.v < 10 ^ l.b-index) × (value_from l.v (drop l.b-index l.xs) ≡ value_from 0 l.xs)
