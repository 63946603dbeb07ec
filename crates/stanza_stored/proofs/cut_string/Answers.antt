use Prim.Native.Nat.{◌+◌}
use mathlib.Core.Path.{◌≡◌}
use lib.ListN.{get_or}
use Rattle.stanza_stored.proofs.Strings.{passes, is_cut, none_cut}
use native.Mathlib.Omega.{arith}
use Rattle.stanza_stored.proofs.cut_string.Goals as goal

pub returns-then-s-i : goal.returns-then-s-i
returns-then-s-i c = is_cut c.loop-i.invariant c.loop-i-test.true (omega (arith, c.if-s-i.true))

pub loop-i-preserved : goal.loop-i-preserved
loop-i-preserved c =
    let q : c.loop-i.i + (1 + c.from-k.result) ≡ c.loop-i.i + 1 + get_or c.args.s.now c.loop-i.i 0 = omega arith in
    rw q (passes c.loop-i.invariant c.loop-i-test.true (omega (arith, c.if-s-i.false)))

pub returns : goal.returns
returns c = none_cut c.loop-i.invariant c.loop-i-test.false
