use Prim.Native.Nat.{◌+◌, ◌-◌}
use mathlib.Core.Path.{◌≡◌, sym, ◌∙◌}
use native.Mathlib.Omega.{arith}
use Rattle.octets.proofs.Slices.{lent_rest}
use Rattle.address.proofs.Doubled.{passed_on, passed_found, passed_all}
use Rattle.address.proofs.read.double_colon.Goals as goal

pub returns-then-two_colons-clause-sides : goal.returns-then-two_colons-clause-sides
returns-then-two_colons-clause-sides c =
    let j = c.loop-i.i - 1 in
    let b = rw (lent_rest c.args.t.now j) at (sym c.two_colons.ensures ∙ c.if-two_colons.true) in
    let q : j + 2 ≡ c.loop-i.i + 1 = omega arith in
    rw (lent_rest c.args.t.now (c.loop-i.i + 1)) (rw q at (passed_found c.args.t.now j c.loop-i.invariant b))

pub loop-i-preserved : goal.loop-i-preserved
loop-i-preserved c =
    let j = c.loop-i.i - 1 in
    let b = rw (lent_rest c.args.t.now j) at (sym c.two_colons.ensures ∙ c.if-two_colons.false) in
    let q : j + 1 ≡ c.loop-i.i + 1 - 1 = omega arith in
    rw q at (passed_on c.args.t.now j c.loop-i.invariant (omega arith) b)

pub returns-clause-sides : goal.returns-clause-sides
returns-clause-sides c = passed_all c.args.t.now (c.loop-i.i - 1) c.loop-i.invariant (omega arith)
