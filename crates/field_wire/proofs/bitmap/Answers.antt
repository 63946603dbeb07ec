use mathlib.Core.Path.{◌≡◌, refl, ◌∙◌}
use mathlib.Core.Bool.{true}
use lib.ListN.{length}
use lib.Seq.{slice}
use Rattle.format.specs.Wire.{taken, window, short, bad}
use Rattle.field_wire.proofs.Laws.{whole, whole_so_far, nothing, window_low, window_cut, window_none, window_long, all_left}
use Rattle.field_wire.proofs.Laws.{window_short, window_zero, window_again}
use native.Mathlib.Omega.{arith}
use Rattle.field_wire.proofs.bitmap.Goals.{then-n-lt1-via-then-n-lt1, then-n-lt1-via-else-n-lt1+then-n-gt32}
use Rattle.field_wire.proofs.bitmap.Goals as goal

pub returns-then-w-lo : goal.returns-then-w-lo
returns-then-w-lo c =
    whole _ _ _ bad c.loop-j.invariant.2
    (window_low c.args.p.now c.loop-j.j (length c.args.p.now) (omega arith) c.loop-j-test.true c.loop-j.lo (omega (arith, c.from-w.ensures)))
    ∙ all_left (window 0) c.args.p.now

pub returns-then-p-j-lt2 : goal.returns-then-p-j-lt2
returns-then-p-j-lt2 c =
    whole _ _ _ short c.loop-j.invariant.2
    (window_cut c.args.p.now c.loop-j.j (length c.args.p.now) (omega arith) c.loop-j-test.true c.loop-j.lo (omega (arith, c.from-w.ensures)) c.if-p-j-lt2.true)
    ∙ all_left (window 0) c.args.p.now

pub returns-then-n-lt1 : goal.returns-then-n-lt1
returns-then-n-lt1 c = whole _ _ _ bad c.loop-j.invariant.2 by ∙ all_left (window 0) c.args.p.now
  where
    by : taken (window c.loop-j.lo) (slice c.loop-j.j (length c.args.p.now) c.args.p.now) ≡ bad
    by = elim c.then-n-lt1.branch [
      | then-n-lt1-via-then-n-lt1 w ↦
          window_none c.args.p.now c.loop-j.j (length c.args.p.now) (omega arith) c.loop-j-test.true c.loop-j.lo (omega (arith, c.from-w.ensures)) c.if-p-j-lt2.false
          c.from-n.result c.from-n.ensures w.if-n-lt1.true
      | then-n-lt1-via-else-n-lt1+then-n-gt32 w ↦
          window_long c.args.p.now c.loop-j.j (length c.args.p.now) (omega arith) c.loop-j-test.true c.loop-j.lo (omega (arith, c.from-w.ensures)) c.if-p-j-lt2.false
          c.from-n.result c.from-n.ensures w.if-n-gt32.true
    ]

pub returns-then-p-j : goal.returns-then-p-j
returns-then-p-j c =
    whole _ _ _ short c.loop-j.invariant.2
    (window_short c.args.p.now c.loop-j.j (length c.args.p.now) (omega arith) c.loop-j-test.true c.loop-j.lo (omega (arith, c.from-w.ensures)) c.if-p-j-lt2.false
    c.from-n.result c.from-n.ensures c.if-n-gt32.false c.if-p-j.true)
    ∙ all_left (window 0) c.args.p.now

pub returns-then-p-j-eq0 : goal.returns-then-p-j-eq0
returns-then-p-j-eq0 c =
    whole _ _ _ bad c.loop-j.invariant.2
    (window_zero c.args.p.now c.loop-j.j (length c.args.p.now) (omega arith) c.loop-j-test.true c.loop-j.lo (omega (arith, c.from-w.ensures)) c.if-p-j-lt2.false
    c.from-n.result c.from-n.ensures c.if-n-gt32.false (omega arith) c.if-p-j.false c.if-p-j-eq0.true)
    ∙ all_left (window 0) c.args.p.now

pub loop-j-preserved : goal.loop-j-preserved
loop-j-preserved c = (
  omega arith,
  omega (arith, c.from-w.ensures, c.type_inv.p c.loop-j.j),
  window_again c.args.p.now c.loop-j.j (length c.args.p.now) (omega arith) c.loop-j-test.true c.loop-j.lo (omega (arith, c.from-w.ensures)) c.if-p-j-lt2.false
      c.from-n.result c.from-n.ensures c.if-n-gt32.false (omega arith) c.if-p-j.false _ c.loop-j.invariant.2 c.if-p-j-eq0.false c.from-w.result c.from-w.ensures,
)

pub returns : goal.returns
returns c =
    whole_so_far c.loop-j.j _ _ c.loop-j.invariant.2
    (nothing c.args.p.now c.loop-j.j (length c.args.p.now) (omega arith) (window c.loop-j.lo) true refl c.loop-j-test.false)
    ∙ all_left (window 0) c.args.p.now
