use native.Mathlib.Omega.{arith}
use borrow.Author.Rules.{rules}
use Rattle.catalogue_pack.specs.Packed.{parallel}
use Rattle.catalogue_pack.proofs.Rows.{next_stored, all_packed}
use Rattle.catalogue_pack.proofs.Parallel.{parallel_count, parallel_at}
use Rattle.catalogue_pack.proofs.pack.Goals as goal

pub loop-i-preserved : goal.loop-i-preserved
loop-i-preserved c =
    let a = c.args in
    let i = c.loop-i.i in
    let n = parallel_count a.numbers.now a.starts.now a.lengths.now in
    next_stored (parallel a.numbers.now a.starts.now a.lengths.now) a.raw.now c.loop-i.raw i _ _ (omega (arith, n)) (search rules)
    (parallel_at a.numbers.now a.starts.now a.lengths.now i (omega arith) (omega arith) (omega arith)) c.to_word.ensures.value c.to_word.ensures.fits c.loop-i.invariant

pub returns : goal.returns
returns c =
    let a = c.args in
    let n = parallel_count a.numbers.now a.starts.now a.lengths.now in
    all_packed (parallel a.numbers.now a.starts.now a.lengths.now) a.raw.now c.loop-i.raw c.min-n.result (omega (arith, n)) (search rules)
