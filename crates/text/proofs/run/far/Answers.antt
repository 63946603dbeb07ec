use Rattle.std.proofs.Common.{◌∙◌, drop, length-drop, arith}
use Rattle.octets.proofs.Slices.{lent_rest, span_length}
use Rattle.text.proofs.Runs.{run_on}
use Rattle.text.proofs.run.far.Goals as goal

pub loop-j-preserved : goal.loop-j-preserved
loop-j-preserved g c =
    let h = rw (lent_rest c.args.t.now c.loop-j.j) at (c.block.ensures.there c.loop-j-test.true) in
    let a = rw (lent_rest c.args.t.now c.loop-j.j) at (c.block.ensures.plain c.loop-j-test.true) in
    record {
      within = omega (arith, h, length-drop c.loop-j.j c.args.t.now);
      same_run = run_on g.P.Plain.plain 32 c.loop-j.j c.args.t.now h a ∙ c.loop-j.invariant.same_run;
    }

pub overflow_add-result : goal.overflow_add-result
overflow_add-result g c =
    omega (arith, rw (lent_rest c.args.t.now c.loop-j.j) at c.near.ensures, span_length g.P.Plain.plain (drop c.loop-j.j c.args.t.now), length-drop c.loop-j.j c.args.t.now)
