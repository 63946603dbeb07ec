use mathlib.Core.Path.{sym, ◌∙◌}
use lib.ListN.{length}
use borrow.Author.Tests.{eqb-true}
use Rattle.catalogue_judge.proofs.Verdicts.{none_bad, all_good}
use Rattle.catalogue_judge.proofs.judged.Goals.{then-not-is_empty+else-k-entries, else-not-is_empty}
use Rattle.catalogue_judge.proofs.judged.Goals as goal

pub invariant_of-result : goal.invariant_of-result
invariant_of-result c =
    elim c.if-not-is_empty.branch [
      | then-not-is_empty+else-k-entries w ↦ record { listed = all_good c.args.names.now c.args.entries.now w.good_before-k.result w.if-k-entries.false w.good_before-k.ensures.stopped }
      | else-not-is_empty w ↦ record { listed = none_bad c.args.names.now c.args.entries.now (eqb-true (length c.args.entries.now) 0 (sym c.is_empty.ensures ∙ w.if-not-is_empty.false)) }
    ]
