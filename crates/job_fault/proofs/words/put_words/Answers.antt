use Rattle.buffer.proofs.Laws.{wrote_append}
use Rattle.job_fault.proofs.words.put_words.Goals as goal

pub returns : goal.returns
returns c =
    rw (c.in-Some.is, ← c.words.ensures)
    (wrote_append (wrote_append (wrote_append c.put_all-line.ensures c.put_line-reason.ensures) c.put_all-end.ensures) c.put_octet.ensures)
