use Rattle.std.proofs.Common.{arith}
use borrow.Author.Tests.{ne_eqb}
use Rattle.name.proofs.Names.{part_none, part_fault, part_octet, part_long, part_empty, part_dot, part_last}
use Rattle.name.proofs.read.label.Goals as goal

pub loop-j-init : goal.loop-j-init
loop-j-init c = record {
  after = omega arith;
  within = omega arith;
  place = omega arith;
  short = omega arith;
  some = λ h. absurd (omega arith);
  part = part_none _ _ _ _;
}

pub returns-then-m-at : goal.returns-then-m-at
returns-then-m-at c = part_empty c.loop-j.invariant.part c.loop-j-test.true c.if-t-j-eq46.true c.if-m-at.true

pub returns-then-t-j-eq46 : goal.returns-then-t-j-eq46
returns-then-t-j-eq46 c =
    part_dot c.loop-j.invariant.part c.loop-j-test.true c.if-t-j-eq46.true _ c.loop-j.invariant.after c.if-m-at.false c.loop-j.invariant.short c.put.ensures

pub returns-in_err-b : goal.returns-in_err-b
returns-in_err-b c =
    rw c.from_residual.ensures (part_fault c.loop-j.invariant.part (rw c.in_err-b.was at c.octet.ensures))

pub returns-then-at-m : goal.returns-then-at-m
returns-then-at-m c =
    part_long c.loop-j.invariant.part _ _ (ne_eqb _ _ c.if-t-j-eq46.false) (rw c.in_ok-b.was at c.octet.ensures) c.if-at-m.true

pub loop-j-preserved : goal.loop-j-preserved
loop-j-preserved c =
    let g = rw c.in_ok-b.was at c.octet.ensures in
    record {
      after = omega (arith, g.3);
      within = g.4;
      place = omega arith;
      short = omega arith;
      some = λ h. omega arith;
      part = part_octet c.loop-j.invariant.part _ _ (ne_eqb _ _ c.if-t-j-eq46.false) g _ c.put-in-loop-j.ensures;
    }

pub returns : goal.returns
returns c =
    part_last c.loop-j.invariant.part _ c.loop-j-test.false (c.loop-j.invariant.some c.loop-j-test.false) c.loop-j.invariant.short c.put-2.ensures
