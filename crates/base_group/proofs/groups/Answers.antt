use Rattle.std.proofs.lemmas.List.{take_rest}
use Rattle.base_group.proofs.GroupDigits.{groups_none, groups_more}
use Rattle.base_group.proofs.groups.Goals as goal

pub loop-last-init : goal.loop-last-init
loop-last-init g c = groups_none _ _ _ _ _ _ _

pub loop-last-preserved : goal.loop-last-preserved
loop-last-preserved g c =
    groups_more _ _ _ _ _ _ _ _ _ _ c.loop-last.invariant _ _ _ (rw (take_rest c.args.t.now c.loop-last.from) at c.take_digits-last.ensures.taken) _ _ c.requires.grouping
    c.if-last.false c.take_digits-last.ensures.few c.put_octets-end.ensures
