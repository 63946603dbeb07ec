use Prim.Native.Nat.{◌≤◌, ◌<◌}
use mathlib.Core.Path.{◌≡◌, refl, sym, ◌∙◌}
use mathlib.Core.Bool.{true, false}
use lib.ListN.{length}
use lib.Seq.{slice}
use Rattle.format.specs.Wire.{taken, label_length, took, short, bad}
use Rattle.field_wire.proofs.Laws.{whole, nothing, root, label_long, name_long, label_cut, name_first, label_again, all_left}
use native.Mathlib.Omega.{arith}
use borrow.Author.Rules.{rules}
use Rattle.field_wire.proofs.name.Goals.{then-n-gt63-via-then-n-gt63, then-n-gt63-via-else-n-gt63+then-j-n-gt255}
use Rattle.field_wire.proofs.name.Goals as goal

pub returns-then-optional : goal.returns-then-optional
returns-then-optional c =
    let h : length c.args.p.now ≤ 0 = search rules in
    nothing c.args.p.now 0 (length c.args.p.now) (omega arith) (label_length c.args.optional 0) true c.if-optional.true h ∙ all_left (label_length c.args.optional 0) c.args.p.now

pub returns-else-optional : goal.returns-else-optional
returns-else-optional c =
    let h : length c.args.p.now ≤ 0 = search rules in
    nothing c.args.p.now 0 (length c.args.p.now) (omega arith) (label_length c.args.optional 0) false c.if-optional.false h ∙ all_left (label_length c.args.optional 0) c.args.p.now

pub loop-j-init : goal.loop-j-init
loop-j-init c =
    let h : 0 < length c.args.p.now = search rules in
    (search rules, search rules, name_first c.args.p.now (length c.args.p.now) (omega arith) h c.args.optional)

pub returns-then-n-eq0 : goal.returns-then-n-eq0
returns-then-n-eq0 c =
    whole _ _ _ (took 1) c.loop-j.invariant.2
    (root c.args.p.now c.loop-j.j (length c.args.p.now) (omega arith) c.loop-j-test.true _ (omega (arith, c.from-n.ensures)))
    ∙ all_left (label_length c.args.optional 0) c.args.p.now

pub returns-then-n-gt63 : goal.returns-then-n-gt63
returns-then-n-gt63 c = whole _ _ _ bad c.loop-j.invariant.2 by ∙ all_left (label_length c.args.optional 0) c.args.p.now
  where
    by : taken (label_length false c.loop-j.j) (slice c.loop-j.j (length c.args.p.now) c.args.p.now) ≡ bad
    by = elim c.then-n-gt63.branch [
      | then-n-gt63-via-then-n-gt63 w ↦
          label_long c.args.p.now c.loop-j.j (length c.args.p.now) (omega arith) c.loop-j-test.true c.loop-j.j c.from-n.result c.from-n.ensures w.if-n-gt63.true
      | then-n-gt63-via-else-n-gt63+then-j-n-gt255 w ↦
          name_long c.args.p.now c.loop-j.j (length c.args.p.now) (omega arith) c.loop-j-test.true c.loop-j.j c.from-n.result c.from-n.ensures (omega arith) w.if-n-gt63.false w.if-j-n-gt255.true
    ]

pub returns-then-p-j : goal.returns-then-p-j
returns-then-p-j c =
    whole _ _ _ short c.loop-j.invariant.2
    (label_cut c.args.p.now c.loop-j.j (length c.args.p.now) (omega arith) c.loop-j-test.true _ c.from-n.result c.from-n.ensures (omega arith) (omega arith) (omega arith))
    ∙ all_left (label_length c.args.optional 0) c.args.p.now

pub loop-j-preserved : goal.loop-j-preserved
loop-j-preserved c = (
  omega arith,
  omega arith,
  label_again c.args.p.now c.loop-j.j (length c.args.p.now) (omega arith) c.loop-j-test.true c.from-n.result _ c.loop-j.invariant.2 c.from-n.ensures
      (omega arith) (omega arith) (omega arith) (omega arith),
)

pub returns : goal.returns
returns c =
    whole _ _ _ short c.loop-j.invariant.2
    (sym (nothing c.args.p.now c.loop-j.j (length c.args.p.now) (omega arith) (label_length false c.loop-j.j) false refl c.loop-j-test.false))
    ∙ all_left (label_length c.args.optional 0) c.args.p.now
