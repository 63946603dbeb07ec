use Rattle.std.proofs.Common.{◌≡◌, ◌<◌, ◌^◌, drop}
use Rattle.address.proofs.Numbers.{hex_from}
use Rattle.address.proofs.part.hex.Given as goal

-- The value so far has a digit for each octet, and goes on to that of the whole.
abbrev pub invariant-loop-b : goal.invariant-loop-b
invariant-loop-b l = (l.v < 16 ^ l.b-index) × (hex_from l.v (drop l.b-index l.t) ≡ hex_from 0 l.t)
