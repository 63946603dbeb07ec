use Rattle.format.proofs.Number.{decimal_10}
use Rattle.buffer.proofs.Laws.{wrote_append}
use Rattle.std.proofs.Common.{arith}
use Rattle.probe_reply.proofs.line.put_numbers.Goals as goal

pub put_octet-blank-requires : goal.put_octet-blank-requires
put_octet-blank-requires c =
    omega (arith, c.put_decimal-end.ensures.count, decimal_10 c.from.result)

pub put_decimal-requires : goal.put_decimal-requires
put_decimal-requires c =
    (omega (arith, c.put_octet-blank.ensures.count, c.put_decimal-end.ensures.count, decimal_10 c.from.result), omega (arith, c.from-2.ensures))

pub returns : goal.returns
returns c =
    wrote_append (wrote_append (rw c.from.ensures at c.put_decimal-end.ensures) c.put_octet-blank.ensures) (rw c.from-2.ensures at c.put_decimal.ensures)
