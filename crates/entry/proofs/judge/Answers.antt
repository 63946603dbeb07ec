use Rattle.format.specs.Stored.{as_file}
use Rattle.entry.proofs.Laws.{accepted_count}
use Rattle.entry.proofs.judge.Goals as goal

pub replied-requires : goal.replied-requires
replied-requires c = accepted_count (as_file c.args.stanza.now) c.judged_outline-outline.ensures

pub returns : goal.returns
returns c =
    c.replied.ensures (as_file c.args.stanza.now) _ _ c.judged_outline-outline.ensures
