use Rattle.std.proofs.Common.{ap, arith}
use Rattle.format.specs.Lists.{flat_map}
use Rattle.format.specs.Name.{name_escape}
use Rattle.format.proofs.Lists.{drop_next}
use Rattle.buffer.proofs.Laws.{left_piece}
use Rattle.name.proofs.Labels.{escaped_length}
use Rattle.name.proofs.print.escaped.Goals as goal

pub put_escaped_name-m-requires : goal.put_escaped_name-m-requires
put_escaped_name-m-requires c = omega (arith, c.loop-b.invariant.count, escaped_length c.args.p.now)

pub loop-b-preserved : goal.loop-b-preserved
loop-b-preserved c =
    left_piece _ _ _ _ c.loop-b.invariant (ap (flat_map name_escape) (drop_next c.args.p.now c.loop-b.b-index c.loop-b-test.true)) c.put_escaped_name-m.ensures
