-- What the code's answers mean, by the definitions of document 01.
use Rattle.std.specs.Prelude.{ℕ, Result, Ok, Err}
use Rattle.format.specs.Wire.{Taken, short, bad, took}
use Rattle.buffer.specs.declared.lack.Lack.{Lack}
use Rattle.buffer.specs.declared.lack.Lack.TheVariants.{Missing, Fault}

abbrev pub taken_in : Result ℕ Lack → Taken
taken_in (Ok n) = took n
taken_in (Err Missing) = short
taken_in (Err Fault) = bad
