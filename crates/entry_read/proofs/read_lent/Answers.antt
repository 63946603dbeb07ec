use Rattle.format.specs.Entries.{read_of}
use Rattle.catalogue.specs.Entries.{entries_at}
use Rattle.stanza_stored.specs.Stored.{lent_as}
use Rattle.entry.proofs.Laws.{accepted}
use Rattle.entry.proofs.Runs.{lent_short}
use Rattle.entry.proofs.Rooms.{leaves_refused}
use Rattle.entry_read.proofs.Readings.{read_long}
use Rattle.entry_read.proofs.read_lent.Goals as goal

pub returns-then-text-gt1048576 : goal.returns-then-text-gt1048576
unfolding read_of
returns-then-text-gt1048576 c =
    leaves_refused _ c.args.at _ _ _ _
    (read_long (lent_as c.args.in_file c.args.edition c.args.s.now) (entries_at c.args.entries.now) c.args.names.now c.args.first c.args.length c.args.origin.now c.args.text.now
    c.if-text-gt1048576.true) c.refused.ensures.number c.refused.ensures.place

pub read_under-requires-clause-judged : goal.read_under-requires-clause-judged
read_under-requires-clause-judged c =
    (lent_as c.args.in_file c.args.edition c.args.s.now, c.judged-outline.ensures)

pub read_under-requires-clause-short : goal.read_under-requires-clause-short
read_under-requires-clause-short c =
    λ z. lent_short c.args.in_file c.args.edition c.args.s.now _ (accepted c.judged-outline.ensures z)

pub returns : goal.returns
returns c =
    c.read_under.ensures (lent_as c.args.in_file c.args.edition c.args.s.now) c.judged-outline.ensures
