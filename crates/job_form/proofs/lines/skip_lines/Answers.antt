use Rattle.std.proofs.Common.{arith, ◌≡◌, ◌-◌}
use Rattle.std.specs.Prelude.{Some}
use Rattle.job_form.proofs.Places.{skips_on, skips_none}
use Rattle.job_form.proofs.lines.skip_lines.Goals as goal

pub loop-preserved : goal.loop-preserved
loop-preserved c = record {
  inside = omega (arith, c.in_ok-m.ensures.within);
  skips = λ r s. c.loop.invariant.skips r (skips_on c.in_ok-m.ensures _ _ r c.loop-test.true s);
}

pub returns : goal.returns
returns c =
    let q : c.args.n - c.loop.counter ≡ 0 = omega (arith, c.loop-test.false) in
    c.loop.invariant.skips (Some c.loop.m) (rw q (skips_none _ _ c.loop.invariant.inside))
