use Rattle.stanza_form.proofs.Codes.{codes_many}
use Rattle.entry_print.proofs.Printings.{text_answer}
use native.Mathlib.Omega.{arith}
use Rattle.entry_print.proofs.print_run.Goals as goal

pub check-requires-clause-fields : goal.check-requires-clause-fields
check-requires-clause-fields c =
    omega (arith, c.requires.usable.within, codes_many c.args.codes.now)

pub returns-in-Ok : goal.returns-in-Ok
returns-in-Ok c =
    let (ps, e) = c.in-Ok.ensures c.args.s.now in
    rw (text_answer _ _ _ ps e) c.put_text.ensures
