use Rattle.std.proofs.Common.{◌≡◌, ◌<◌, ◌^◌, drop}
use Rattle.probe_request.specs.Request.{number_of}
use Rattle.probe_request.proofs.Numbers.{number_on}
use Rattle.probe_request.proofs.number.Given as goal

-- The digits so far make `value`; going on with the others gives the number of the whole word, or none.
abbrev pub invariant-loop-b : goal.invariant-loop-b
invariant-loop-b l = record {
  small : l.value < 2 ^ 64;
  number : number_on l.value (drop l.b-index l.word) ≡ number_of l.word;
}
