use Rattle.std.proofs.Common.{◌≡◌, sym, ◌∙◌, length, arith}
use Rattle.octets.proofs.Slices.{front_goes_on, front_stops, front_ends}
use Rattle.text.proofs.run.near.Goals as goal

pub loop-i-preserved : goal.loop-i-preserved
loop-i-preserved g c =
    front_goes_on g.P.Plain.plain c.args.t.now c.loop-i.i c.loop-i-test.true (sym c.is_plain.ensures ∙ c.if-not-is_plain.false) ∙ c.loop-i.invariant

pub returns-then-not-is_plain : goal.returns-then-not-is_plain
returns-then-not-is_plain g c =
    front_stops g.P.Plain.plain c.args.t.now c.loop-i.i c.loop-i-test.true (sym c.is_plain.ensures ∙ c.if-not-is_plain.true) ∙ c.loop-i.invariant

pub returns : goal.returns
returns g c =
    let e : length c.args.t.now ≡ c.loop-i.i = omega arith in
    e ∙ front_ends g.P.Plain.plain c.args.t.now c.loop-i.i c.loop-i-test.false ∙ c.loop-i.invariant
