use Rattle.buffer.proofs.Laws.{wrote_append}
use Rattle.job_fault.proofs.words.put_line.Goals as goal

pub returns : goal.returns
returns c =
    rw (c.in-Some.is, ← c.from.ensures)
    (wrote_append (wrote_append c.put_all-number.ensures c.put_decimal-end.ensures) c.put_all.ensures)
