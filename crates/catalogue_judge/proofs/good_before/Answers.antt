use native.Mathlib.Omega.{arith}
use lib.ListN.{length-take}
use Rattle.catalogue_judge.proofs.Verdicts.{Settled-count, stops}
use Rattle.catalogue_judge.proofs.good_before.Goals as goal

pub returns-clause-stopped : goal.returns-clause-stopped
returns-clause-stopped c =
    stops _ _ _ c.front-n.result _ c.front-n.ensures (Settled-count c.args.names.now c.args.entries.now _ _ _ (omega (arith, length-take c.front-n.result c.front-n.new.hashes, c.front-n.ensures.fits)) c.first_again.ensures)
