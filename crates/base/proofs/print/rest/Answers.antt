use Rattle.std.proofs.Common.{refl}
use Rattle.base.proofs.Texts.{rest_wrote}
use Rattle.base.proofs.print.rest.Goals as goal

pub returns : goal.returns
returns g c =
    rest_wrote g.row.W g.row.G g.row.N c.args.alphabet.now c.requires.grouped c.args.p.now c.min.result _ c.min.ensures c.requires.no_room refl c.group.ensures
