use Rattle.probe_reply.proofs.Results.{filed_read, stored_read}
use Rattle.probe_reply.proofs.taken.Goals as goal

pub returns-in-None : goal.returns-in-None
returns-in-None c =
    filed_read c.args.run c.args.octets.now c.args.rdata.now _ c.in-None.is (rw c.of.ensures at c.numbers-types.ensures)
    (rw (c.of-lent.ensures, c.of-origin.ensures, c.of-text.ensures, c.of-names.ensures) at c.read_with.ensures)

pub returns-in-Some : goal.returns-in-Some
returns-in-Some c =
    stored_read c.args.run c.args.octets.now c.args.rdata.now c.in-Some.edition c.in-Some.is (c.requires.alone (rw c.in-Some.is)) (rw (c.of-lent.ensures, c.of-origin.ensures, c.of-text.ensures) at c.read_stored.ensures)
