use mathlib.Core.Path.{sym, ◌∙◌}
use lib.ListN.{length}
use borrow.Author.Tests.{leb-true}
use native.Mathlib.Omega.{arith}
use Rattle.catalogue_judge.proofs.Entries.{typed_digits}
use Rattle.catalogue_judge.proofs.is_typed.Goals.{then-t-ge5, else-t-ge5}
use Rattle.catalogue_judge.proofs.is_typed.Goals as goal

pub returns-then-same : goal.returns-then-same
returns-then-same c =
    elim c.if-t-ge5.branch [
      | then-t-ge5 w ↦ typed_digits c.args.t.now c.skip.result w.if-t-ge5.true (sym w.same.ensures ∙ sym w.value-is ∙ c.if-same.true) c.skip.ensures
      | else-t-ge5 w ↦ absurd (omega (arith, w.if-t-ge5.false, leb-true 5 (length c.args.t.now) (sym w.value-is ∙ c.if-same.true)))
    ]
