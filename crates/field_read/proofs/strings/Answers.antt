use Prim.Native.Nat.{◌-◌}
use lib.ListN.{drop}
use Rattle.format.specs.Token.{tokens}
use Rattle.field_read.proofs.Texts.{before_start, before_next, next_string, strings_missing, strings_bad, strings_all}
use native.Mathlib.Omega.{arith}
use borrow.Author.Rules.{rules}
use Rattle.field_read.proofs.strings.Goals as goal

pub loop-p-init : goal.loop-p-init
loop-p-init c = (omega arith, omega arith, c.requires.place, omega arith, before_start _ _ _, search rules)

pub returns-then-m-at : goal.returns-then-m-at
returns-then-m-at c =
    λ ns o. strings_missing c.loop-p.invariant.4 c.loop-p.invariant.0 ns o (rw c.in-Err-Missing.field-0-is at (c.in-Err-Missing.ensures {u = tt}).gives) c.if-m-at.true

pub returns-in-Err-Missing : goal.returns-in-Err-Missing
returns-in-Err-Missing c =
    λ ns o.
    let (xs, e, w) = strings_all c.loop-p.invariant.4 c.loop-p.invariant.0 ns o (rw c.in-Err-Missing.field-0-is at (c.in-Err-Missing.ensures {u = tt}).gives) (omega (arith, c.if-m-at.false)) _
    (rw c.in-Err-Missing.field-0-is at (c.in-Err-Missing.ensures {u = tt}).onward) in
    (xs, e, w, c.loop-p.invariant.2)

pub returns-in-Err-Fault : goal.returns-in-Err-Fault
returns-in-Err-Fault c = λ ns o. strings_bad c.loop-p.invariant.4 c.loop-p.invariant.0 ns o (rw c.in-Err-Fault.field-0-is at (c.in-Err-Fault.ensures {u = tt}).gives)

pub loop-p-smaller : goal.loop-p-smaller
loop-p-smaller c =
    let g = (c.in-Ok.ensures {u = tt}).gives in
    let h = (c.in-Ok.ensures {u = tt}).onward in
    omega (arith, h, g.3)

pub loop-p-preserved : goal.loop-p-preserved
loop-p-preserved c =
    let g = (c.in-Ok.ensures {u = tt}).gives in
    let h = (c.in-Ok.ensures {u = tt}).onward in
    let s = next_string (tokens (drop c.loop-p.j c.args.t.now)) g.0 _ g.1 in (
      omega (arith, c.loop-p.invariant.0, g.2.count),
      omega (arith, c.loop-p.invariant.1, h),
      g.3,
      omega (arith, c.loop-p.invariant.3, c.loop-p.invariant.1, g.2.count, s.most, h),
      before_next c.loop-p.invariant.4 c.loop-p.invariant.0 _ _ g.0 _ g.1 g.2,
      search rules,
    )
