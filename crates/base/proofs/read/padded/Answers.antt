use Rattle.std.proofs.Common.{sym, ◌∙◌, arith}
use Rattle.base_group.specs.Group.{left_out}
use Rattle.base.proofs.Base64Rest.{pads_left, pads_one, pads_other, pads_more}
use Rattle.base.proofs.read.padded.Goals.{then-q-eq0-via-then-q-eq0, then-q-eq0-via-else-q-eq0+then-b-ne61, then-not-leaves_out+else-q-eq0+else-b-ne61, else-not-leaves_out}
use Rattle.base.proofs.read.padded.Goals as goal

pub returns-then-q-eq0 : goal.returns-then-q-eq0
returns-then-q-eq0 c =
    let f = left_out c.args.alphabet.numbers.now c.args.alphabet.skip in
    elim c.then-q-eq0.branch [
      | then-q-eq0-via-then-q-eq0 w ↦ pads_more f c.args.t.now c.loop-b.b-index (omega arith) c.loop-b.q (sym c.leaves_out.ensures ∙ c.if-not-leaves_out.true) w.if-q-eq0.true ∙ c.loop-b.invariant
      | then-q-eq0-via-else-q-eq0+then-b-ne61 w ↦ pads_other f c.args.t.now c.loop-b.b-index (omega arith) c.loop-b.q (sym c.leaves_out.ensures ∙ c.if-not-leaves_out.true) w.if-b-ne61.true ∙ c.loop-b.invariant
    ]

pub loop-b-preserved : goal.loop-b-preserved
loop-b-preserved c =
    let f = left_out c.args.alphabet.numbers.now c.args.alphabet.skip in
    elim c.if-not-leaves_out.branch [
      | then-not-leaves_out+else-q-eq0+else-b-ne61 w ↦ rw w.q-is (pads_one f c.args.t.now c.loop-b.b-index (omega arith) c.loop-b.q (sym c.leaves_out.ensures ∙ w.if-not-leaves_out.true) w.if-b-ne61.false w.if-q-eq0.false ∙ c.loop-b.invariant)
      | else-not-leaves_out w ↦ rw w.q-is (pads_left f c.args.t.now c.loop-b.b-index (omega arith) c.loop-b.q (sym c.leaves_out.ensures ∙ w.if-not-leaves_out.false) ∙ c.loop-b.invariant)
    ]
