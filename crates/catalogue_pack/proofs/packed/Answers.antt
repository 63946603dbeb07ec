use native.Mathlib.Omega.{arith}
use borrow.Author.Rules.{rules}
use Rattle.catalogue_pack.specs.Packed.{entries_of}
use Rattle.catalogue_pack.proofs.Rows.{lent_at, lent_count, next_stored, all_packed}
use Rattle.catalogue_pack.proofs.packed.Goals as goal

pub loop-i-preserved : goal.loop-i-preserved
loop-i-preserved c =
    let es = c.args.es.now in
    next_stored (entries_of es) c.args.raw.now c.loop-i.raw c.loop-i.i _ _ (omega (arith, lent_count es)) (search rules)
    (lent_at es c.loop-i.i) c.to_word.ensures.value c.to_word.ensures.fits c.loop-i.invariant

pub returns : goal.returns
returns c =
    all_packed (entries_of c.args.es.now) c.args.raw.now c.loop-i.raw c.min-n.result (omega (arith, lent_count c.args.es.now)) (search rules)
