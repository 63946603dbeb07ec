use native.Mathlib.Omega.{arith}
use Rattle.octets.proofs.Slices.{lent}
use Rattle.number.proofs.Symbols.{name_ends}
use Rattle.number.proofs.symbol.one.Goals as goal

pub slice_bounds-name-end : goal.slice_bounds-name-end
slice_bounds-name-end g c =
    omega (arith, name_ends _ _ _ _ _ c.requires.from c.requires.to (rw (c.in_ok-e.was, c.in-Numbered.is) at c.find.ensures))

pub returns-then-test-clause-passes : goal.returns-then-test-clause-passes
returns-then-test-clause-passes g c =
    let (h, _) = name_ends _ _ _ _ _ c.requires.from c.requires.to (rw (c.in_ok-e.was, c.in-Numbered.is) at c.find.ensures) in
    λ f q. rw (← c.find.ensures, c.in_ok-e.was, c.in-Numbered.is, ← lent c.args.s.now c.args.i c.in-Numbered.e h, ← q _ _ _ c.test.ensures, c.if-test.true)

pub returns-else-test-clause-passes : goal.returns-else-test-clause-passes
returns-else-test-clause-passes g c =
    let (h, _) = name_ends _ _ _ _ _ c.requires.from c.requires.to (rw (c.in_ok-e.was, c.in-Numbered.is) at c.find.ensures) in
    λ f q. rw (← c.find.ensures, c.in_ok-e.was, c.in-Numbered.is, ← lent c.args.s.now c.args.i c.in-Numbered.e h, ← q _ _ _ c.test.ensures, c.if-test.false)
