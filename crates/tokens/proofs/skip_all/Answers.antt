use mathlib.Core.Path.{◌≡◌, sym, ◌∙◌}
use lib.ListN.{length}
use native.Mathlib.Omega.{arith}
use Rattle.tokens.specs.Tokens.{standing}
use Rattle.octets.proofs.Slices.{front_goes_on, front_stops, front_ends}
use Rattle.tokens.proofs.skip_all.Goals as goal

pub loop-i-preserved : goal.loop-i-preserved
loop-i-preserved c =
    front_goes_on (standing c.args.q) c.args.t.now c.loop-i.i c.loop-i-test.true (sym c.stands.ensures ∙ c.if-not-stands.false)
    ∙ c.loop-i.invariant

pub returns-then-not-stands : goal.returns-then-not-stands
returns-then-not-stands c =
    front_stops (standing c.args.q) c.args.t.now c.loop-i.i c.loop-i-test.true (sym c.stands.ensures ∙ c.if-not-stands.true)
    ∙ c.loop-i.invariant

pub returns : goal.returns
returns c =
    let e : length c.args.t.now ≡ c.loop-i.i = omega arith in
    e ∙ front_ends (standing c.args.q) c.args.t.now c.loop-i.i c.loop-i-test.false ∙ c.loop-i.invariant
