use mathlib.Core.Path.{◌≡◌, sym, ◌∙◌}
use Rattle.format.specs.Entries.{read_of}
use Rattle.catalogue.specs.Entries.{entries_at}
use Rattle.entry.proofs.Laws.{accepted_count}
use Rattle.entry.proofs.Rooms.{leaves_refused}
use Rattle.entry.proofs.Runs.{run_within, usable_run}
use Rattle.entry_read.proofs.Readings.{read_rejected, read_no_run, read_no_origin, read_runs}
use native.Mathlib.Omega.{arith}
use borrow.Author.Rules.{rules}
use Rattle.entry_read.proofs.read_under.Goals as goal

pub returns-then-outline-ne0 : goal.returns-then-outline-ne0
unfolding read_of
returns-then-outline-ne0 c =
    λ l q. leaves_refused _ c.args.at _ _ _ _
    (read_rejected l (entries_at c.args.entries.now) c.args.names.now q c.args.origin.now c.args.t.now c.requires.text c.args.first c.args.many
    (omega (arith, c.if-outline-ne0.true))) c.rejected.ensures.number c.rejected.ensures.place

pub returns-then-not-is_run : goal.returns-then-not-is_run
unfolding read_of
returns-then-not-is_run c =
    λ l q. leaves_refused _ c.args.at _ _ _ _
    (read_no_run l (entries_at c.args.entries.now) c.args.names.now q c.args.origin.now c.args.t.now c.requires.text (omega (arith, c.if-outline-ne0.false)) c.args.first
    c.args.many (sym c.if-not-is_run.true ∙ c.is_run.ensures)) c.refused.ensures.number c.refused.ensures.place

pub returns-then-not-is_name : goal.returns-then-not-is_name
unfolding read_of
returns-then-not-is_name c =
    λ l q. leaves_refused _ c.args.at _ _ _ _
    (read_no_origin l (entries_at c.args.entries.now) c.args.names.now q c.args.origin.now c.args.t.now c.requires.text (omega (arith, c.if-outline-ne0.false))
    c.args.first c.args.many (sym c.if-not-is_run.false ∙ c.is_run.ensures)
    (sym c.is_name.ensures ∙ c.if-not-is_name.true)) c.refused-then-not-is_name.ensures.number c.refused-then-not-is_name.ensures.place

pub offset_bounds-codes-first : goal.offset_bounds-codes-first
offset_bounds-codes-first c =
    let (l, q) = c.requires.judged in
    let n : c.args.outline.number ≡ 0 = omega (arith, c.if-outline-ne0.false) in
    omega (arith, run_within l q n (omega (arith, accepted_count l q n)) c.args.first c.args.many (sym c.if-not-is_run.false ∙ c.is_run.ensures))

pub slice_bounds-run-end : goal.slice_bounds-run-end
slice_bounds-run-end c =
    let (l, q) = c.requires.judged in
    let n : c.args.outline.number ≡ 0 = omega (arith, c.if-outline-ne0.false) in
    let w = run_within l q n (omega (arith, accepted_count l q n)) c.args.first c.args.many (sym c.if-not-is_run.false ∙ c.is_run.ensures) in
    search (rules, w)

pub read_listed-requires-clause-run : goal.read_listed-requires-clause-run
read_listed-requires-clause-run c =
    let (l, q) = c.requires.judged in
    let n : c.args.outline.number ≡ 0 = omega (arith, c.if-outline-ne0.false) in
    usable_run l q n (omega (arith, accepted_count l q n)) c.args.first c.args.many
    (sym c.if-not-is_run.false ∙ c.is_run.ensures) (c.requires.short n)

pub read_listed-requires-clause-origin : goal.read_listed-requires-clause-origin
read_listed-requires-clause-origin c = sym c.is_name.ensures ∙ c.if-not-is_name.false

pub returns : goal.returns
unfolding read_of
returns c =
    λ l q. let n : c.args.outline.number ≡ 0 = omega (arith, c.if-outline-ne0.false) in
    rw
    (read_runs l (entries_at c.args.entries.now) c.args.names.now q c.args.origin.now c.args.t.now c.requires.text n c.args.first
    c.args.many (sym c.if-not-is_run.false ∙ c.is_run.ensures) (omega (arith, accepted_count l q n)) (sym c.is_name.ensures ∙ c.if-not-is_name.false))
    c.read_listed.ensures
