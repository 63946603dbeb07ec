use Rattle.std.proofs.Common.{◌≡◌}
use Rattle.base_group.specs.Group.{left_out}
use Rattle.base.proofs.Base64Rest.{Padded}
use Rattle.base.proofs.read.padded.Given as goal

-- There are exactly k of `=` exactly if there are q among the octets that are left; octets that are left out do not count.
abbrev pub invariant-loop-b : goal.invariant-loop-b
invariant-loop-b l = Padded (left_out l.alphabet.numbers.now l.alphabet.skip) l.t l.b-index l.q ≡ Padded (left_out l.alphabet.numbers.now l.alphabet.skip) l.t 0 l.k
