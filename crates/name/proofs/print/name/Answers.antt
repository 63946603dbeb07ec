use Rattle.std.proofs.Common.{true}
use Rattle.buffer.proofs.Laws.{wrote_text}
use Rattle.name.proofs.Labels.{labels_text}
use Rattle.name.proofs.print.name.Goals as goal

pub returns-in_default : goal.returns-in_default
returns-in_default c =
    wrote_text _ _ (labels_text c.args.p.now c.in_default.len_at_least (true, 0, c.requires.name)) c.labels.ensures
