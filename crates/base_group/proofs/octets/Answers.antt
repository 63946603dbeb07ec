use Rattle.base_group.proofs.GroupDigits.{last_small, front_octets, front_fault}
use Rattle.base_group.proofs.octets.Goals as goal

pub returns-then-f-t : goal.returns-then-f-t
returns-then-f-t g c =
    front_fault _ _ _ _ _ _ _ _ _ _ c.groups-f.ensures.whole _ _ _ c.groups-f.ensures.last c.if-f-t.true
    (c.groups-f.ensures.stops c.if-f-t.true)

pub finish-requires-clause-small : goal.finish-requires-clause-small
finish-requires-clause-small g c =
    last_small _ _ _ _ _ _ _ _ _ _ c.groups-f.ensures.whole _ _ _ c.groups-f.ensures.last

pub returns : goal.returns
returns g c =
    front_octets _ _ _ _ _ _ _ _ _ _ c.groups-f.ensures.whole _ _ _ c.groups-f.ensures.last c.if-f-t.false _ _ c.finish.ensures
