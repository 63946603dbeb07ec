use mathlib.Core.Path.{refl, sym, ◌∙◌}
use Rattle.format.specs.Grammar.{qualifier}
use Rattle.stanza_words.specs.Qualifiers.{holds_of}
use Rattle.stanza_words.proofs.Laws.{not_comma, run_end, run_within, any_found, any_last, any_next}
use native.Mathlib.Omega.{arith}
use borrow.Author.Rules.{rules}
use Rattle.stanza_words.proofs.any_of.Goals as goal

pub loop-test-init : goal.loop-test-init
loop-test-init c = record { within = search rules; same = refl }

pub returns-then-holds : goal.returns-then-holds
returns-then-holds c =
    sym
    (any_found _ _ _ _ c.loop-test.invariant.within c.requires.to
    (run_end not_comma c.args.s.now c.loop-test.i c.args.b _ c.loop-test.invariant.within c.skip.ensures)
    (λ p. holds_of c.args.test (qualifier p)) (sym c.holds.ensures ∙ c.if-holds.true))
    ∙ c.loop-test.invariant.same

pub returns-then-end-b : goal.returns-then-end-b
returns-then-end-b c =
    sym
    (any_last _ _ _ _ c.loop-test.invariant.within c.requires.to
    (run_end not_comma c.args.s.now c.loop-test.i c.args.b _ c.loop-test.invariant.within c.skip.ensures)
    (λ p. holds_of c.args.test (qualifier p)) c.if-end-b.true (sym c.holds.ensures ∙ c.if-holds.false))
    ∙ c.loop-test.invariant.same

pub loop-test-preserved : goal.loop-test-preserved
loop-test-preserved c = record {
  within = omega (arith, run_within not_comma c.args.s.now c.loop-test.i c.args.b _ c.loop-test.invariant.within c.skip.ensures c.requires.to);
  same =
      any_next _ _ _ _ c.loop-test.invariant.within c.requires.to
      (run_end not_comma c.args.s.now c.loop-test.i c.args.b _ c.loop-test.invariant.within c.skip.ensures)
      (λ p. holds_of c.args.test (qualifier p)) c.if-end-b.false (sym c.holds.ensures ∙ c.if-holds.false)
      ∙ c.loop-test.invariant.same;
}
