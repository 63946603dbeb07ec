use mathlib.Core.Path.{◌≡◌, sym, ◌∙◌}
use lib.ListN.{length}
use native.Mathlib.Omega.{arith}
use Rattle.octets.specs.Octets.{in_class}
use Rattle.octets.proofs.Slices.{front_goes_on, front_stops, front_ends}
use Rattle.octets.proofs.skip.Goals as goal

pub loop-i-preserved : goal.loop-i-preserved
loop-i-preserved c =
    front_goes_on (in_class c.args.c) c.args.xs.now c.loop-i.i c.loop-i-test.true (sym c.has.ensures ∙ c.if-not-has.false)
    ∙ c.loop-i.invariant

pub returns-then-not-has : goal.returns-then-not-has
returns-then-not-has c =
    front_stops (in_class c.args.c) c.args.xs.now c.loop-i.i c.loop-i-test.true (sym c.has.ensures ∙ c.if-not-has.true)
    ∙ c.loop-i.invariant

pub returns : goal.returns
returns c =
    let e : length c.args.xs.now ≡ c.loop-i.i = omega arith in
    e ∙ front_ends (in_class c.args.c) c.args.xs.now c.loop-i.i c.loop-i-test.false ∙ c.loop-i.invariant
