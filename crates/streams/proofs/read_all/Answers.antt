use Rattle.std.proofs.Common.{arith, rules, refl, ap, ◌∙◌, ◌≡◌}
use Rattle.std.specs.Prelude.{Ok, Err}
use Rattle.streams.specs.Reading.{full, ended, failed, further}
use Rattle.streams.proofs.Reading.{took, once, more_read}
use Rattle.streams.proofs.read_all.Goals as goal

pub returns-in_err-read_once-clause-reading : goal.returns-in_err-read_once-clause-reading
returns-in_err-read_once-clause-reading g c =
    let same : c.from_residual.result ≡ Err c.in_err-read_once.field-0.0 = search rules in
    c.loop-n.invariant.reading _ _ (rw same (failed (once _ _ _ _ _ c.loop-n-test.true c.read_once.auto.room c.read_once.ensures.once c.in_err-read_once.was)))

pub returns-in-None-clause-reading : goal.returns-in-None-clause-reading
returns-in-None-clause-reading g c =
    c.loop-n.invariant.reading _ _ (ended (once _ _ _ _ _ c.loop-n-test.true c.read_once.auto.room c.read_once.ensures.once (c.in_ok-read_once.was ∙ ap Ok c.in-None.is)))

pub loop-n-preserved : goal.loop-n-preserved
loop-n-preserved g c =
    let o = once _ _ _ _ _ c.loop-n-test.true c.read_once.auto.room c.read_once.ensures.once (c.in_ok-read_once.was ∙ ap Ok c.in-Some.is) in
    let t = took o.once refl (omega (arith, c.loop-n-test.true)) in
    record {
      inside = omega (arith, t.1, o.same, o.room);
      kept = o.same ∙ c.loop-n.invariant.kept;
      reading = λ r zs s. c.loop-n.invariant.reading r zs (further o s);
      octets = more_read _ _ _ _ _ _ _ _ c.loop-n-test.true c.read_once.auto.room (c.in_ok-read_once.was ∙ ap Ok c.in-Some.is) c.loop-n.invariant.octets c.read_once.ensures.octets;
    }

pub returns-clause-reading : goal.returns-clause-reading
returns-clause-reading g c =
    c.loop-n.invariant.reading _ _ (full (omega (arith, c.loop-n-test.false)))
