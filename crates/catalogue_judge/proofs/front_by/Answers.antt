use mathlib.Core.Path.{sym, ◌∙◌}
use native.Mathlib.Omega.{arith}
use Rattle.catalogue_judge.proofs.Fronts.{no_number, a_number, going_low, going_bad, going_on, stops_here}
use Rattle.catalogue_judge.proofs.front_by.Goals as goal

pub returns-then-t-low : goal.returns-then-t-low
returns-then-t-low c =
    stops_here c.args.names.now c.args.entries.now c.loop-i.hashes c.args.n c.loop-i.low c.loop-i.i c.loop-i.invariant c.loop-i-test.true (omega arith)
    (going_low c.args.names.now c.args.entries.now c.loop-i.hashes c.loop-i.low c.loop-i.i _ c.loop-i.invariant c.type_number-t.ensures c.if-t-low.true)

pub returns-in-None : goal.returns-in-None
returns-in-None c =
    stops_here c.args.names.now c.args.entries.now c.loop-i.hashes c.args.n c.loop-i.low c.loop-i.i c.loop-i.invariant c.loop-i-test.true (omega arith)
    (going_bad c.args.names.now c.args.entries.now c.loop-i.hashes c.loop-i.low c.loop-i.i _ c.loop-i.invariant c.type_number-t.ensures
    (no_number c.args.names.now _ (sym c.alone.ensures ∙ c.in-None.is)))

pub loop-i-preserved : goal.loop-i-preserved
loop-i-preserved c =
    going_on c.args.names.now c.args.entries.now c.loop-i.hashes c.loop-i.low c.loop-i.i _ c.loop-i.invariant c.type_number-t.ensures c.in-Some.h
    (omega arith) (omega arith) c.if-t-low.false (a_number c.args.names.now _ c.in-Some.h (sym c.alone.ensures ∙ c.in-Some.is))
