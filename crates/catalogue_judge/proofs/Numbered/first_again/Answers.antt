use mathlib.Core.Path.{◌≡◌, sym, ◌∙◌}
use mathlib.Core.Bool.{false, true}
use native.Mathlib.Omega.{arith}
use lib.ListN.{length-set}
use Rattle.catalogue_judge.specs.Judging.{met_before}
use Rattle.catalogue_judge.proofs.Marks.{each_next, mark_none, marked_next}
use Rattle.catalogue_judge.proofs.Numbered.first_again.Goals as goal

pub again-requires-clause-unmarked : goal.again-requires-clause-unmarked
again-requires-clause-unmarked c =
    let s = c.args.self.now in
    mark_none s.names.now s.entries.now s.hashes.now c.loop-k.k (omega (arith, c.loop-k-test.true, s.within)) (λ j l. s.hashed j (omega (arith, c.loop-k-test.true, l))) c.loop-k.met c.loop-k.invariant.2

pub loop-k-preserved : goal.loop-k-preserved
loop-k-preserved c =
    let s = c.args.self.now in (
      length-set c.loop-k.met _ true ∙ c.loop-k.invariant.0,
      each_next (λ j. met_before s.names.now s.entries.now j ≡ false) c.loop-k.k c.loop-k.invariant.1 (sym c.again.ensures ∙ c.if-again.false),
      marked_next s.hashes.now c.loop-k.met c.loop-k.k c.loop-k.invariant.0 c.loop-k.invariant.2,
    )
