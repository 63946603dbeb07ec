use Rattle.std.proofs.Common.{ap₂}
use Rattle.format.specs.Entries.{refusal}
use Rattle.format.specs.Job.{answer_line}
use Rattle.buffer.proofs.Laws.{wrote_append, wrote_text}
use Rattle.job_line.proofs.put_no.Goals as goal

pub returns : goal.returns
returns c =
    wrote_text _ _ (ap₂ (λ n i. answer_line (refusal n i)) c.from.ensures c.from-2.ensures)
    (wrote_append
    (wrote_append (wrote_append (wrote_append c.put_all-first.ensures c.put_decimal-blank.ensures) c.put_octet-second.ensures)
    c.put_decimal-end.ensures) c.put_octet.ensures)
