use Rattle.parts.proofs.Halves.{sorted_twice}
use Rattle.parts.proofs.twice.Goals as goal

pub returns : goal.returns
returns c =
    sorted_twice c.args.ignoring c.args.s.now c.args.parts.now c.sort.new.parts c.sort.result c.sort.ensures
