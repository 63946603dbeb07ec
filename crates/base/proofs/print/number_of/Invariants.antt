use Rattle.std.proofs.Common.{◌≡◌, ◌<◌, ◌^◌, drop}
use Rattle.format.specs.Digits.{number_from, number}
use Rattle.format.specs.Base.{bits}
use Rattle.base.proofs.print.number_of.Given as goal

-- The octets so far make v; going on with the bits of the others gives the number of all.
abbrev pub invariant-loop-b : goal.invariant-loop-b
invariant-loop-b g l = record {
  small : l.v < 256 ^ l.b-index;
  same : number_from 2 l.v (bits 8 (drop l.b-index l.xs)) ≡ number 2 (bits 8 l.xs);
}
