use mathlib.Core.Path.{sym, ◌∙◌}
use Rattle.stanza_words.proofs.Laws.{not_comma, run_end, run_within}
use Rattle.number.specs.Symbols.{passing}
use Rattle.number.proofs.Symbols.{first_here, first_none, first_next}
use native.Mathlib.Omega.{arith}
use Rattle.number.proofs.symbol.first.Goals as goal

pub returns-in-Some-clause-passes : goal.returns-in-Some-clause-passes
returns-in-Some-clause-passes g c =
    λ f q. sym (c.loop-name.invariant.same f q)
    ∙ first_here (passing f) _ _ _ _ c.loop-name.invariant.within c.requires.to
    (run_end not_comma c.args.s.now c.loop-name.i c.args.b _ c.loop-name.invariant.within c.skip.ensures) _ (c.in-Some.ensures.passes f q)

pub returns-then-z-b-clause-passes : goal.returns-then-z-b-clause-passes
returns-then-z-b-clause-passes g c =
    λ f q. sym (c.loop-name.invariant.same f q)
    ∙ first_none (passing f) _ _ _ _ c.loop-name.invariant.within c.requires.to
    (run_end not_comma c.args.s.now c.loop-name.i c.args.b _ c.loop-name.invariant.within c.skip.ensures) c.if-z-b.true (c.in_default.ensures.passes f q)

pub loop-name-preserved : goal.loop-name-preserved
loop-name-preserved g c = record {
  callable = c.loop-name.invariant.callable;
  within = omega (arith, run_within not_comma c.args.s.now c.loop-name.i c.args.b _ c.loop-name.invariant.within c.skip.ensures c.requires.to);
  same =
      λ f q. first_next (passing f) _ _ _ _ c.loop-name.invariant.within c.requires.to
      (run_end not_comma c.args.s.now c.loop-name.i c.args.b _ c.loop-name.invariant.within c.skip.ensures) c.if-z-b.false (c.in_default.ensures.passes f q)
      ∙ c.loop-name.invariant.same f q;
}
