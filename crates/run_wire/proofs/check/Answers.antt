use Prim.Native.Nat.{◌+◌}
use mathlib.Core.Path.{◌≡◌, subst}
use lib.ListN.{length, length-drop, drop_of_length-le}
use Rattle.format.specs.Run.{refused, parts_of}
use Rattle.stanza_form.specs.Code.{fields_of}
use Rattle.run_wire.specs.Run.{kinds_of}
use Rattle.run_wire.proofs.Laws.{no_kind, ahead_over, ahead_done, turn_lacks, turn_within, turn_took}
use native.Mathlib.Omega.{arith}
use Rattle.run_wire.proofs.check.Goals as goal

pub overflow_add-at : goal.overflow_add-at
overflow_add-at c =
    omega (
      arith,
      turn_within c.args.codes.now c.args.p.now c.loop-k.k c.loop-k.at c.take_field.result c.field-d.result c.field-d.ensures c.loop-k.invariant.1
          c.loop-k-test.true c.take_field.ensures c.in-Ok.w c.in-Ok.is c.loop-k.invariant.0,
    )

pub returns-in-Err : goal.returns-in-Err
returns-in-Err c =
    λ s. rw (c.lacking.ensures.number, c.lacking.ensures.place)
    (turn_lacks c.args.codes.now c.args.p.now c.loop-k.k c.loop-k.at c.take_field.result c.field-d.result c.field-d.ensures c.loop-k.invariant.1
    c.loop-k-test.true c.take_field.ensures c.in-Err.why c.in-Err.is s)

pub loop-k-preserved : goal.loop-k-preserved
loop-k-preserved c = (
  turn_within c.args.codes.now c.args.p.now c.loop-k.k c.loop-k.at c.take_field.result c.field-d.result c.field-d.ensures c.loop-k.invariant.1
      c.loop-k-test.true c.take_field.ensures c.in-Ok.w c.in-Ok.is c.loop-k.invariant.0,
  turn_took c.args.codes.now c.args.p.now c.loop-k.k c.loop-k.at c.take_field.result c.field-d.result c.field-d.ensures c.loop-k.invariant.1
      c.loop-k-test.true c.take_field.ensures c.in-Ok.w c.in-Ok.is,
)

pub returns-then-at-p : goal.returns-then-at-p
returns-then-at-p c =
    λ s. let q : c.loop-k.k ≡ length c.args.codes.now = omega arith in
    rw (c.left_over.ensures.number, c.left_over.ensures.place)
    (subst (λ n. parts_of (kinds_of s (fields_of c.args.codes.now)) c.args.p.now ≡ refused 10 (n + 1)) q
    (ahead_over (c.loop-k.invariant.1 s) (no_kind s c.args.codes.now c.loop-k.k c.loop-k-test.false)
    (omega (arith, length-drop c.loop-k.at c.args.p.now))))

pub returns : goal.returns
returns c =
    λ s. ahead_done (c.loop-k.invariant.1 s) (no_kind s c.args.codes.now c.loop-k.k c.loop-k-test.false)
    (drop_of_length-le c.args.p.now c.if-at-p.false)
