use Rattle.format.specs.Stored.{as_stored}
use Rattle.entry.proofs.Laws.{accepted_count}
use Rattle.entry.proofs.judge_stored.Goals as goal

pub replied-requires : goal.replied-requires
replied-requires c = accepted_count (as_stored c.args.edition c.args.txt.now) c.judged_stored-outline.ensures

pub returns : goal.returns
returns c =
    c.replied.ensures (as_stored c.args.edition c.args.txt.now) _ _ c.judged_stored-outline.ensures
