-- The buffer that `job::main` lends has room for one octet more than a job may have.
use Rattle.std.proofs.Common.{lit<}
use Rattle.job.proofs.Room.{enough}
use Rattle.job.proofs.main.Goals as goal

pub run-requires : goal.run-requires
run-requires c = enough 65536 (lit< tt)
