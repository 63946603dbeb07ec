use Rattle.entry_room.proofs.Octets.{again_done, again_wrote, again_leaves}
use native.Mathlib.Omega.{arith}
use Rattle.entry_room.proofs.read_again.Goals as goal

pub overflow_cast-m : goal.overflow_cast-m
overflow_cast-m c =
    omega (arith, (again_wrote c.requires.reads _ _ _ c.in-Ok.ensures).count, c.requires.reads.short)

pub returns-in-Err : goal.returns-in-Err
returns-in-Err c = absurd (again_done c.requires.reads _ c.in-Err.ensures)

pub returns-in-Ok : goal.returns-in-Ok
returns-in-Ok c =
    again_leaves _ _ c.args.at _ _ _ c.requires.reads c.min-a.ensures
    (again_wrote c.requires.reads _ _ _ c.in-Ok.ensures) c.accepted.ensures.number c.accepted.ensures.place
