use Rattle.std.proofs.Common.{◌&&◌, ◌≡◌, drop}
use Rattle.format.specs.Lists.{all_of}
use Rattle.text.proofs.run.all_plain.Given as goal

-- The octets so far, and those that are left, all stand for themselves exactly if the whole does.
abbrev pub invariant-loop-b : goal.invariant-loop-b
invariant-loop-b g l = (l.all && all_of g.P.Plain.plain (drop l.b-index l.t)) ≡ all_of g.P.Plain.plain l.t
