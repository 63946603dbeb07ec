use Rattle.probe_reply.proofs.Results.{filed_printed, stored_printed}
use Rattle.probe_reply.proofs.printed.Goals as goal

pub returns-in-None : goal.returns-in-None
returns-in-None c =
    filed_printed c.args.run c.args.octets.now c.args.text.now _ c.in-None.is (rw c.of.ensures at c.numbers-types.ensures) (rw (c.of-lent.ensures, c.of-rdata.ensures, c.of-names.ensures) at c.print_with.ensures)

pub returns-in-Some : goal.returns-in-Some
returns-in-Some c =
    stored_printed c.args.run c.args.octets.now c.args.text.now c.in-Some.edition c.in-Some.is (c.requires.alone (rw c.in-Some.is)) (rw (c.of-lent.ensures, c.of-rdata.ensures) at c.print_stored.ensures)
