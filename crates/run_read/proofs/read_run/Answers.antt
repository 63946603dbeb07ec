use Rattle.catalogue.specs.Known.{names_in}
use mathlib.Core.Path.{◌≡◌, sym, ap, subst, ◌∙◌}
use mathlib.Core.List.{[], ◌++◌}
use Prim.Native.Nat.{◌+◌}
use lib.ListN.{length}
use Rattle.format.specs.Token.{tokens}
use Rattle.format.specs.Run.{read_field, read_run, refused}
use Rattle.run_wire.specs.Run.{kinds_of}
use Rattle.stanza_form.specs.Fields.{Usable}
use Rattle.run_wire.proofs.Laws.{no_kind, next_kind}
use Rattle.run_read.specs.Reading.{Stands}
use Rattle.run_read.proofs.Runs.{ahead_start, ahead_lacks, ahead_got, ahead_over, ahead_done, stands_none, stands_next}
use Rattle.stanza_form.specs.Code.{fields_of}
use Rattle.stanza_form.proofs.Codes.{read_at, codes_many}
use native.Mathlib.Omega.{arith}
use borrow.Author.Rules.{rules}
use Rattle.run_read.proofs.read_run.Goals as goal

pub loop-k-init : goal.loop-k-init
loop-k-init c = (omega arith, omega arith, ([], stands_none _, ahead_start _ _ _))

pub read_field-requires : goal.read_field-requires
read_field-requires c =
    let n = codes_many c.args.codes.now in
    record {
      room = omega (arith, c.loop-k.invariant.1);
      usable = subst (Usable c.args.u.now.s.now) (sym (read_at c.args.codes.now _ c.field.ensures)) (c.requires.run.fields c.loop-k.k (omega (arith, n)));
      place = c.loop-k.invariant.0;
      text = c.requires.text;
    }

pub lacking-requires : goal.lacking-requires
lacking-requires c = omega (arith, codes_many c.args.codes.now, c.requires.run.within)

pub left_over-requires : goal.left_over-requires
left_over-requires c = omega (arith, codes_many c.args.codes.now, c.requires.run.within)

pub returns-in-Err : goal.returns-in-Err
returns-in-Err c =
    rw (c.lacking.ensures.number, c.lacking.ensures.place)
    (ahead_lacks _ c.loop-k.invariant.2.2 _ _ (next_kind c.args.u.now.s.now c.args.codes.now c.loop-k.k c.loop-k-test.true c.field.result c.field.ensures) c.in-Err.why
    c.loop-k.out c.read_field.new.out c.loop-k.n c.args.t.now (rw c.in-Err.is at c.read_field.ensures))

pub loop-k-preserved : goal.loop-k-preserved
loop-k-preserved c =
    let g = rw c.in-Ok.is at c.read_field.ensures in (
      g.3,
      omega (arith, c.min-n.ensures),
      (
        c.loop-k.invariant.2.0 ++ g.0,
        stands_next {p = g.0} _ c.loop-k.invariant.2.1 g.2 c.min-n.ensures,
        ahead_got _ c.loop-k.invariant.2.2 _ _ (next_kind c.args.u.now.s.now c.args.codes.now c.loop-k.k c.loop-k-test.true c.field.result c.field.ensures) g.0 _ g.1,
      ),
    )

pub returns-then-none_from : goal.returns-then-none_from
returns-then-none_from c =
    let (qs, e, f) = ahead_done _ c.loop-k.invariant.2.2 (no_kind c.args.u.now.s.now c.args.codes.now c.loop-k.k c.loop-k-test.false)
    (sym c.none_from.ensures ∙ c.if-none_from.true) in
    (qs, e, subst (λ xs. Stands c.args.out.now c.loop-k.out c.loop-k.n xs) (sym f) c.loop-k.invariant.2.1)

pub returns : goal.returns
returns c =
    let q : c.loop-k.k ≡ length c.args.codes.now = omega arith in
    rw (c.left_over.ensures.number, c.left_over.ensures.place)
    (subst
    (λ n. read_run (λ k ts. read_field (names_in c.args.u.now.c) k c.args.u.now.origin.now ts) (kinds_of c.args.u.now.s.now (fields_of c.args.codes.now)) (tokens c.args.t.now) ≡ refused 10 (n + 1)) q
    (ahead_over _ c.loop-k.invariant.2.2 (no_kind c.args.u.now.s.now c.args.codes.now c.loop-k.k c.loop-k-test.false) (sym c.none_from.ensures ∙ c.if-none_from.false)))
