use Prim.Native.Nat.{◌+◌}
use Rattle.run_print.proofs.Runs.{lead_first, place_later, lead_none, lead_some, listed_short}
use Rattle.buffer.proofs.Laws.{part_wrote}
use native.Mathlib.Omega.{arith}
use Rattle.run_print.proofs.put_next.Goals as goal

pub returns-then-at-eq0-clause-wrote : goal.returns-then-at-eq0-clause-wrote
returns-then-at-eq0-clause-wrote c =
    lead_first c.if-at-eq0.true c.next_place.ensures
    (part_wrote _ _ c.next_place.result _ _ _ c.min-a.ensures c.put_field-w.ensures)

pub returns-then-w-eq0-clause-wrote : goal.returns-then-w-eq0-clause-wrote
returns-then-w-eq0-clause-wrote c =
    let n = place_later c.args.at c.next_place.result c.if-at-eq0.false c.next_place.ensures in
    lead_none c.if-at-eq0.false c.if-w-eq0.true (part_wrote _ _ (c.args.at + 1) _ _ _ (rw n at c.min-a.ensures) c.put_field-w.ensures)

pub overflow_add-result-2 : goal.overflow_add-result-2
overflow_add-result-2 c =
    omega (
      arith,
      c.put_field-w.ensures.count,
      listed_short c.args.c.now c.args.s.now c.args.d c.requires.usable c.args.p.now (λ j. omega (arith, c.type_inv.p j)) c.requires.taken,
    )

pub returns-clause-wrote : goal.returns-clause-wrote
returns-clause-wrote c =
    let n = place_later c.args.at c.next_place.result c.if-at-eq0.false c.next_place.ensures in
    lead_some _ c.if-at-eq0.false c.if-w-eq0.false
    (part_wrote _ _ (c.args.at + 1) _ _ _ (rw n at c.min-a.ensures) c.put_field-w.ensures) c.put.ensures

pub returns-then-at-eq0-clause-bound : goal.returns-then-at-eq0-clause-bound
returns-then-at-eq0-clause-bound c =
    omega (
      arith,
      c.put_field-w.ensures.count,
      listed_short c.args.c.now c.args.s.now c.args.d c.requires.usable c.args.p.now (λ j. omega (arith, c.type_inv.p j)) c.requires.taken,
    )

pub returns-clause-bound : goal.returns-clause-bound
returns-clause-bound c =
    omega (
      arith,
      c.put_field-w.ensures.count,
      listed_short c.args.c.now c.args.s.now c.args.d c.requires.usable c.args.p.now (λ j. omega (arith, c.type_inv.p j)) c.requires.taken,
    )
