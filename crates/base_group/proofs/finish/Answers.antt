use Rattle.base_group.proofs.Bits.{many_left, bits_left, none_left}
use Rattle.base_group.proofs.finish.Goals as goal

pub returns-then-z : goal.returns-then-z
returns-then-z g c =
    many_left g.row.W c.args.last.count c.args.last.number c.requires.small c.if-z.true

pub returns-then-last-p-ne0 : goal.returns-then-last-p-ne0
returns-then-last-p-ne0 g c =
    bits_left g.row.W c.args.last.count c.args.last.number c.requires.small _ c.power-p.ensures c.if-z.false c.if-last-p-ne0.true

pub returns : goal.returns
returns g c =
    none_left g.row.W c.args.last.count c.args.last.number c.requires.small _ c.power-p.ensures c.if-z.false _ _ _ _ c.if-last-p-ne0.false
    c.put_octets.ensures
