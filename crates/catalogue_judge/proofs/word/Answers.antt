use mathlib.Core.Path.{sym, ap, ◌∙◌}
use native.Mathlib.Nat.{mod-lt}
use native.Mathlib.Omega.{arith}
use lib.ListN.{get_or}
use Rattle.catalogue_judge.specs.Judging.{folded_table}
use Rattle.catalogue_judge.proofs.Words.{word_off, word_on}
use Rattle.catalogue_judge.proofs.word.Goals as goal

pub returns-then-f-eq0 : goal.returns-then-f-eq0
returns-then-f-eq0 c =
    sym (word_off c.args.t.now c.loop-b.b-index c.loop-b.h _ c.loop-b-test.true (c.type_inv.t c.loop-b.b-index).fits (ap (λ l. get_or l c.from.result 0) c.requires ∙ ap (λ x. get_or folded_table x 0) c.from.ensures) c.if-f-eq0.true)
    ∙ c.loop-b.invariant.1

pub loop-b-preserved : goal.loop-b-preserved
loop-b-preserved c = (
  mod-lt _ (omega arith),
  rw (c.from-in-loop-b.ensures)
      (word_on c.args.t.now c.loop-b.b-index c.loop-b.h _ c.loop-b-test.true (c.type_inv.t c.loop-b.b-index).fits (ap (λ l. get_or l c.from.result 0) c.requires ∙ ap (λ x. get_or folded_table x 0) c.from.ensures) c.if-f-eq0.false)
      ∙ c.loop-b.invariant.1,
)
