use Prim.Native.Nat.{◌+◌, ◌≤◌}
use mathlib.Core.Path.{◌≡◌, sym, ap, subst, ◌∙◌}
use lib.ListN.{length, take}
use borrow.Author.Tests.{eqb-true}
use Rattle.catalogue.specs.Known.{names_in}
use Rattle.format.specs.Wire.{taken, took}
use Rattle.format.specs.Field.{start}
use Rattle.format.specs.Run.{shown, parts, parts_of, text_of}
use Rattle.stanza_form.specs.Code.{fields_of}
use Rattle.stanza_form.specs.Fields.{kind_for, Usable}
use Rattle.stanza_form.proofs.Codes.{read_at, codes_many}
use Rattle.run_print.proofs.Runs.{turn, text_went, run_done}
use Rattle.buffer.proofs.Laws.{left_all, left_none}
use native.Mathlib.Omega.{arith}
use Rattle.run_print.proofs.put_run.Goals as goal

pub loop-k-init : goal.loop-k-init
loop-k-init c = (omega arith, omega arith, c.requires.taken_all, left_all _ _ _)

pub split_at-requires : goal.split_at-requires
split_at-requires c =
    (turn (names_in c.args.c.now) c.args.s.now c.args.codes.now c.loop-k.left.now c.loop-k.k c.loop-k-test.true c.loop-k.invariant.2 c.field-d.result c.field-d.ensures _
    (λ x. eqb-true _ _ x) c.field_width-w.result c.field_width-w.ensures).within

pub put_next-at-requires : goal.put_next-at-requires
put_next-at-requires c =
    let z = turn (names_in c.args.c.now) c.args.s.now c.args.codes.now c.loop-k.left.now c.loop-k.k c.loop-k-test.true c.loop-k.invariant.2 c.field-d.result c.field-d.ensures _
    (λ x. eqb-true _ _ x) c.field_width-w.result c.field_width-w.ensures in
    let n = codes_many c.args.codes.now in
    record {
      place = omega (arith, c.loop-k.invariant.1, c.requires.short, c.requires.usable.within, n);
      usable = subst (Usable c.args.s.now) (sym (read_at c.args.codes.now _ c.field-d.ensures)) (c.requires.usable.fields c.loop-k.k (omega (arith, n)));
      stanza = c.requires.usable.short;
      octets = omega (arith, c.split_at.ensures.back_len, c.split_at.ensures.front_len, c.loop-k.invariant.0, c.requires.short);
      taken = rw c.split_at.ensures.front z.takes;
    }

pub loop-k-preserved : goal.loop-k-preserved
loop-k-preserved c =
    let z = turn (names_in c.args.c.now) c.args.s.now c.args.codes.now c.loop-k.left.now c.loop-k.k c.loop-k-test.true c.loop-k.invariant.2 c.field-d.result c.field-d.ensures _
    (λ x. eqb-true _ _ x) c.field_width-w.result c.field_width-w.ensures in (
      omega (arith, c.split_at.ensures.back_len, c.loop-k.invariant.0),
      omega (arith, c.loop-k.invariant.1, c.put_next-at.ensures.bound, c.split_at.ensures.back_len, c.split_at.ensures.front_len, c.loop-k.invariant.0),
      rw c.split_at.ensures.back z.others,
      rw c.split_at.ensures.back
          (text_went _ (shown (names_in c.args.c.now) (kind_for c.args.s.now c.field-d.result) c.split_at.result.0.now) _ _ _ c.loop-k.invariant.3
          (rw c.split_at.ensures.front z.text) c.put_next-at.ensures.wrote),
    )

pub returns : goal.returns
returns c =
    left_none c.loop-k.invariant.3
    (run_done (names_in c.args.c.now) c.args.s.now c.args.codes.now c.loop-k.k c.loop-k.left.now c.loop-k.at c.loop-k-test.false c.loop-k.invariant.2)
