use Rattle.std.proofs.Common.{◌&&◌, ◌≡◌, drop, take}
use Rattle.format.specs.Lists.{all_of}
use Rattle.tokens.specs.Tokens.{standing}
use Rattle.tokens.proofs.block_stands.Given as goal

-- The octets so far, and those that are left, all pass exactly if the whole does.
abbrev pub invariant-loop-b : goal.invariant-loop-b
invariant-loop-b l = (l.all && all_of (standing l.q) (drop l.b-index (take 64 l.t))) ≡ all_of (standing l.q) (take 64 l.t)
