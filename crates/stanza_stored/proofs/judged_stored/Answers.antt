use Rattle.stanza_judge.proofs.Outlines.{told_outlined}
use Rattle.stanza_stored.proofs.Strings.{fault_some}
use Rattle.stanza_stored.proofs.judged_stored.Goals as goal

pub returns-in-Err : goal.returns-in-Err
returns-in-Err c =
    rw c.outline.ensures (told_outlined _ _ _ _ (fault_some c.in-Err.fault) (rw c.in-Err.is at c.start_of.ensures))
