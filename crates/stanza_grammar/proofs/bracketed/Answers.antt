use Prim.Native.Nat.{◌+◌}
use native.Mathlib.Omega.{arith}
use Rattle.format.specs.Grammar.{not_bracket}
use Rattle.stanza_words.proofs.Laws.{run_end, run_within}
use Rattle.stanza_grammar.proofs.Laws.{begun, first_in_lem, no_brackets, brackets_on, brackets_open, brackets_empty}
use Rattle.stanza_grammar.proofs.bracketed.Goals as goal
use Rattle.stanza_grammar.proofs.bracketed.Goals.{then-e-i-via-then-e-i, then-e-i-via-else-e-i+then-not-begins-2}

pub returns-then-not-begins-clause-value : goal.returns-then-not-begins-clause-value
returns-then-not-begins-clause-value c =
    no_brackets c.args.s.now c.args.i c.args.end c.requires.to
    (begun c.args.s.now c.args.i c.args.end 91 _ _ c.requires.from c.begins.ensures c.if-not-begins.true)

pub returns-clause-value : goal.returns-clause-value
returns-clause-value c =
    let b = begun c.args.s.now c.args.i c.args.end 91 _ _ c.requires.from c.begins.ensures c.if-not-begins.false in
    let h = first_in_lem c.args.s.now c.args.i c.args.end 91 b in
    let w = run_within not_bracket c.args.s.now (c.args.i + 1) c.args.end _ (omega (arith, h)) c.skip.ensures c.requires.to in
    brackets_on c.args.s.now c.args.i c.args.end c.requires.to _ b
    (run_end not_bracket c.args.s.now (c.args.i + 1) c.args.end _ (omega (arith, h)) c.skip.ensures) (omega arith)
    (begun c.args.s.now _ c.args.end 93 _ _ w c.begins-else-e-i.ensures c.if-not-begins-2.false)

pub returns-then-e-i-clause-value : goal.returns-then-e-i-clause-value
returns-then-e-i-clause-value c =
    let b = begun c.args.s.now c.args.i c.args.end 91 _ _ c.requires.from c.begins.ensures c.if-not-begins.false in
    let h = first_in_lem c.args.s.now c.args.i c.args.end 91 b in
    let q = run_end not_bracket c.args.s.now (c.args.i + 1) c.args.end _ (omega (arith, h)) c.skip.ensures in
    let w = run_within not_bracket c.args.s.now (c.args.i + 1) c.args.end _ (omega (arith, h)) c.skip.ensures c.requires.to in
    elim c.then-e-i.branch [
      | then-e-i-via-then-e-i v ↦ brackets_empty c.args.s.now c.args.i c.args.end c.requires.to _ b q (omega arith)
      | then-e-i-via-else-e-i+then-not-begins-2 v ↦
          brackets_open c.args.s.now c.args.i c.args.end c.requires.to _ b q
          (begun c.args.s.now _ c.args.end 93 _ _ w v.begins-else-e-i.ensures v.if-not-begins-2.true)
    ]
