use Rattle.std.proofs.Common.{arith}
use borrow.Author.Rules.{rules}
use Rattle.name.proofs.Names.{dot_begun, with_origin, with_zero}
use Rattle.name.proofs.read.labels.Goals as goal

pub returns-in-Last : goal.returns-in-Last
returns-in-Last c =
    let g = rw (c.in_ok-r.was, c.in-Last.is) at c.label.ensures in
    with_origin c.args.origin.now c.args.t.now c.loop-j.j c.loop-j.invariant.begun g c.finish.ensures

pub loop-j-preserved : goal.loop-j-preserved
loop-j-preserved c =
    let g = rw (c.in_ok-r.was, c.in-Dot.is) at c.label.ensures in
    record {
      within = g.within;
      place = omega (arith, g.wrote.count);
      short = omega arith;
      room = search rules;
      begun = dot_begun c.args.origin.now c.args.t.now c.loop-j.j c.loop-j.invariant.begun g;
    }

pub returns : goal.returns
returns c =
    with_zero c.args.origin.now c.args.t.now c.loop-j.j c.loop-j.invariant.begun c.loop-j-test.false c.finish-2.ensures
