use mathlib.Core.Path.{ap, sym}
use Rattle.format.specs.Time.{Day}
use Rattle.time.proofs.Days.{month_next, day_at}
use native.Mathlib.Omega.{arith}
use Rattle.time.proofs.print.day_of.Goals as goal

pub returns-then-left-days-clause-month : goal.returns-then-left-days-clause-month
returns-then-left-days-clause-month c =
    sym
    (ap (λ (x : Day). x.month)
    (day_at c.year_of-y.result.year c.loop-m.m c.month_days-days.result _ c.leap-leap_year.ensures c.month_days-days.ensures.value c.loop-m-test.true c.args.d c.loop-m.left
    c.loop-m.invariant c.requires c.if-left-days.true))

pub returns-then-left-days-clause-day : goal.returns-then-left-days-clause-day
returns-then-left-days-clause-day c =
    sym
    (ap (λ (x : Day). x.day)
    (day_at c.year_of-y.result.year c.loop-m.m c.month_days-days.result _ c.leap-leap_year.ensures c.month_days-days.ensures.value c.loop-m-test.true c.args.d c.loop-m.left
    c.loop-m.invariant c.requires c.if-left-days.true))

pub loop-m-preserved : goal.loop-m-preserved
loop-m-preserved c =
    omega (arith, month_next c.year_of-y.result.year c.loop-m.m c.month_days-days.result _ c.leap-leap_year.ensures c.month_days-days.ensures.value c.loop-m-test.true)
