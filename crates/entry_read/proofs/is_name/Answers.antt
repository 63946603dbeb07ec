use Rattle.entry_read.proofs.Readings.{whole_name, no_name}
use Rattle.entry_read.proofs.is_name.Goals as goal

pub returns-in-Ok : goal.returns-in-Ok
returns-in-Ok c =
    rw c.in-Ok.is at (whole_name c.args.p.now c.name.result c.name.ensures)

pub returns-in-Err : goal.returns-in-Err
returns-in-Err c = no_name c.args.p.now _ c.in-Err.ensures
