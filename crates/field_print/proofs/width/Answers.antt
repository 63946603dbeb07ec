use Rattle.std.specs.Prelude.{Result, Ok, Err}
use Rattle.field_print.proofs.Fields.{taken_or_none}
use Rattle.field_print.proofs.width.Goals as goal

pub returns : goal.returns
returns c = λ l w e. taken_or_none c.take_field.result w c.unwrap_or.result c.unwrap_or.ensures (c.take_field.ensures l) e
