use Rattle.std.proofs.Common.{◌+◌, ◌*◌, ◌-◌, ◌/◌, length, refl}
use Rattle.base.proofs.Texts.{group_wrote}
use Rattle.base.proofs.print.group.Goals as goal

pub returns : goal.returns
returns g c =
    let r = g.row in
    group_wrote r.W r.G r.N c.args.alphabet.now c.requires.grouped c.args.p.now _ ((8 * length c.args.p.now + r.W - 1) / r.W) _ _ c.requires.one_group
    c.put_all.ensures.octets c.number_of.ensures.value c.store.ensures refl c.put_all-2.ensures
