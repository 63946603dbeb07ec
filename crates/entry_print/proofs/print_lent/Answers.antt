use mathlib.Core.Path.{◌≡◌, sym, ◌∙◌}
use Rattle.format.specs.Entries.{print_of}
use Rattle.catalogue.specs.Entries.{entries_at}
use Rattle.stanza_stored.specs.Stored.{lent_as}
use Rattle.entry.proofs.Laws.{accepted, accepted_count}
use Rattle.entry.proofs.Rooms.{leaves_refused}
use Rattle.entry.proofs.Runs.{run_within, usable_run, lent_short}
use Rattle.entry_print.proofs.Printings.{print_long, print_rejected, print_no_run, print_runs}
use native.Mathlib.Omega.{arith}
use borrow.Author.Rules.{rules}
use Rattle.entry_print.proofs.print_lent.Goals as goal

pub returns-then-rdata-gt65535 : goal.returns-then-rdata-gt65535
unfolding print_of
returns-then-rdata-gt65535 c =
    let l = lent_as c.args.in_file c.args.edition c.args.s.now in
    leaves_refused _ c.args.at _ _ _ _
    (print_long l (entries_at c.args.entries.now) c.args.names.now c.args.first c.args.length c.args.rdata.now c.if-rdata-gt65535.true)
    c.refused.ensures.number c.refused.ensures.place

pub returns-then-outline-ne0 : goal.returns-then-outline-ne0
unfolding print_of
returns-then-outline-ne0 c =
    let l = lent_as c.args.in_file c.args.edition c.args.s.now in
    leaves_refused _ c.args.at _ _ _ _
    (print_rejected l (entries_at c.args.entries.now) c.args.names.now c.judged-outline.ensures c.args.first c.args.length c.args.rdata.now c.if-rdata-gt65535.false
    (omega (arith, c.if-outline-ne0.true))) c.rejected.ensures.number c.rejected.ensures.place

pub returns-then-not-is_run : goal.returns-then-not-is_run
unfolding print_of
returns-then-not-is_run c =
    let l = lent_as c.args.in_file c.args.edition c.args.s.now in
    leaves_refused _ c.args.at _ _ _ _
    (print_no_run l (entries_at c.args.entries.now) c.args.names.now c.judged-outline.ensures (omega (arith, c.if-outline-ne0.false)) c.args.first c.args.length c.args.rdata.now
    c.if-rdata-gt65535.false (sym c.if-not-is_run.true ∙ c.is_run.ensures)) c.refused-then-not-is_run.ensures.number c.refused-then-not-is_run.ensures.place

pub offset_bounds-codes-first : goal.offset_bounds-codes-first
offset_bounds-codes-first c =
    let l = lent_as c.args.in_file c.args.edition c.args.s.now in
    let q = c.judged-outline.ensures in
    let n : c.judged-outline.result.number ≡ 0 = omega (arith, c.if-outline-ne0.false) in
    omega (arith, run_within l q n (omega (arith, accepted_count l q n, c.judged-outline.array_long)) c.args.first c.args.length (sym c.if-not-is_run.false ∙ c.is_run.ensures))

pub slice_bounds-run-end : goal.slice_bounds-run-end
slice_bounds-run-end c =
    let l = lent_as c.args.in_file c.args.edition c.args.s.now in
    let q = c.judged-outline.ensures in
    let n : c.judged-outline.result.number ≡ 0 = omega (arith, c.if-outline-ne0.false) in
    let w = run_within l q n (omega (arith, accepted_count l q n, c.judged-outline.array_long)) c.args.first c.args.length (sym c.if-not-is_run.false ∙ c.is_run.ensures) in
    let m = c.judged-outline.array_long in
    search (rules, w, m)

pub print_listed-requires-clause-usable : goal.print_listed-requires-clause-usable
print_listed-requires-clause-usable c =
    let l = lent_as c.args.in_file c.args.edition c.args.s.now in
    let q = c.judged-outline.ensures in
    let n : c.judged-outline.result.number ≡ 0 = omega (arith, c.if-outline-ne0.false) in
    usable_run l q n (omega (arith, accepted_count l q n, c.judged-outline.array_long)) c.args.first c.args.length
    (sym c.if-not-is_run.false ∙ c.is_run.ensures) (lent_short c.args.in_file c.args.edition c.args.s.now _ (accepted q n))

pub returns : goal.returns
unfolding print_of
returns c =
    let l = lent_as c.args.in_file c.args.edition c.args.s.now in
    let q = c.judged-outline.ensures in
    let n : c.judged-outline.result.number ≡ 0 = omega (arith, c.if-outline-ne0.false) in
    rw
    (print_runs l (entries_at c.args.entries.now) c.args.names.now q n (omega (arith, accepted_count l q n, c.judged-outline.array_long)) c.args.first c.args.length
    (sym c.if-not-is_run.false ∙ c.is_run.ensures) c.args.rdata.now c.if-rdata-gt65535.false) c.print_listed.ensures
