use Rattle.format.specs.Stored.{as_file}
use Rattle.entry.proofs.Laws.{accepted}
use Rattle.entry.proofs.Runs.{file_short}
use Rattle.entry_read.proofs.read_judged.Goals as goal

pub read_under-requires-clause-judged : goal.read_under-requires-clause-judged
read_under-requires-clause-judged c = (as_file c.args.s.now, c.requires.judged)

pub read_under-requires-clause-short : goal.read_under-requires-clause-short
read_under-requires-clause-short c = λ z. file_short _ _ (accepted c.requires.judged z)

pub returns : goal.returns
returns c =
    c.read_under.ensures (as_file c.args.s.now) c.requires.judged
