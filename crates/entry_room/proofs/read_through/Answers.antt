use mathlib.Core.Path.{refl}
use Rattle.stanza_form.specs.Code.{fields_of}
use Rattle.run_wire.specs.Run.{kinds_of}
use Rattle.catalogue.specs.Known.{names_in}
use Rattle.entry_room.proofs.Octets.{refused_leaves, over_leaves, measured_leaves, reads_in, copied_leaves}
use native.Mathlib.Omega.{arith}
use Rattle.entry_room.proofs.read_through.Goals as goal

pub returns-then-m-gt65535 : goal.returns-then-m-gt65535
returns-then-m-gt65535 c =
    over_leaves (names_in c.args.u.now.c) (kinds_of c.args.u.now.s.now (fields_of c.args.codes.now)) c.args.u.now.origin.now c.args.t.now c.args.out.now c.args.at _ _ _ c.in-Ok.ensures
    _ c.if-m-gt65535.true c.refused.ensures.number c.refused.ensures.place

pub returns-then-n-from : goal.returns-then-n-from
returns-then-n-from c =
    measured_leaves (names_in c.args.u.now.c) (kinds_of c.args.u.now.s.now (fields_of c.args.codes.now)) c.args.u.now.origin.now c.args.t.now c.args.out.now c.args.at _ _ _ c.in-Ok.ensures
    (omega (arith, c.if-m-gt65535.false)) _ (omega (arith, c.if-n-from.true, c.min-from.ensures))
    c.refused-then-n-from.ensures.number c.refused-then-n-from.ensures.place

pub read_again-requires-clause-reads : goal.read_again-requires-clause-reads
read_again-requires-clause-reads c =
    reads_in (names_in c.args.u.now.c) (kinds_of c.args.u.now.s.now (fields_of c.args.codes.now)) c.args.u.now.origin.now c.args.t.now c.args.out.now c.args.at _ _ _ c.in-Ok.ensures
    (omega (arith, c.if-m-gt65535.false)) (omega (arith, c.if-n-from.false, c.min-from.ensures))

pub returns-in-Err : goal.returns-in-Err
returns-in-Err c =
    refused_leaves (names_in c.args.u.now.c) (kinds_of c.args.u.now.s.now (fields_of c.args.codes.now)) c.args.u.now.origin.now c.args.t.now c.args.out.now c.args.at _ _
    c.in-Err.ensures c.refused_run.ensures.number c.refused_run.ensures.place

pub returns-else-short-m : goal.returns-else-short-m
returns-else-short-m c =
    copied_leaves (names_in c.args.u.now.c) (kinds_of c.args.u.now.s.now (fields_of c.args.codes.now)) c.args.u.now.origin.now c.args.t.now c.args.out.now c.args.at _ _ _ c.in-Ok.ensures
    (omega (arith, c.if-m-gt65535.false)) _ _ _ _ _ refl c.min-from.ensures
    (omega (arith, c.if-n-from.false, c.min-from.ensures)) (omega (arith, c.if-short-m.false)) c.put_all-w.ensures c.accepted.ensures.number
    c.accepted.ensures.place
