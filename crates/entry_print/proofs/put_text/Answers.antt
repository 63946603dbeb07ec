use Rattle.format.specs.Run.{text_of}
use Rattle.stanza_form.specs.Code.{fields_of}
use Rattle.run_wire.specs.Run.{kinds_of}
use Rattle.catalogue.specs.Known.{names_in}
use Rattle.entry.proofs.Rooms.{leaves_done}
use native.Mathlib.Omega.{arith}
use Rattle.entry_print.proofs.put_text.Goals as goal

pub returns : goal.returns
returns c =
    leaves_done _ c.args.out.now _ c.args.at _ _
    (text_of (names_in c.args.c.now) (kinds_of c.args.s.now (fields_of c.args.codes.now)) c.args.p.now)
    _ c.needed-need.ensures.same c.min-a.ensures (omega (arith, c.min-a.ensures, c.needed-need.ensures.needs.fits c.if-n-a.false))
    c.put_run-w.ensures c.accepted.ensures.number c.accepted.ensures.place
