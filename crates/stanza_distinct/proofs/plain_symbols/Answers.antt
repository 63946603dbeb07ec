use Rattle.octets.specs.Octets.{part_in}
use mathlib.Core.Path.{sym, ap, ◌∙◌}
use mathlib.Core.Bool.{true}
use Rattle.format.specs.Grammar.{qualifier}
use Rattle.octets.proofs.Slices.{lent}
use Rattle.stanza_words.specs.declared.Test.TheVariants.{NotSymbol}
use Rattle.stanza_words.specs.Qualifiers.{holds_of}
use Rattle.stanza_words.proofs.Laws.{within, any_last, any_next}
use Rattle.stanza_distinct.specs.Distinct.{bucket_of}
use Rattle.stanza_distinct.proofs.Buckets.{apart_last, apart_next}
use Rattle.stanza_distinct.proofs.Symbols.{below_limit}
use native.Mathlib.Omega.{arith}
use borrow.Author.Rules.{rules}
use Rattle.stanza_distinct.proofs.plain_symbols.Goals as goal

pub returns-then-x-b-clause-plain : goal.returns-then-x-b-clause-plain
returns-then-x-b-clause-plain c =
    let y = (rw c.in-Some.is at c.symbol_at.ensures) in
    λ e. sym c.loop-x.invariant.plain
    ∙ any_last c.args.s.now c.loop-x.i c.args.b _ c.loop-x.invariant.within c.requires.to y.ends
    (λ p. holds_of (NotSymbol c.args.limit) (qualifier p)) c.if-x-b.true
    (below_limit c.args.limit (part_in c.args.s.now c.loop-x.i c.in-Some.x.end)
    (part_in c.args.s.now c.loop-x.i c.in-Some.x.name_end) c.in-Some.x.number y.is (omega (arith, c.if-limit-x.false)))

pub returns-then-x-b-clause-once : goal.returns-then-x-b-clause-once
returns-then-x-b-clause-once c =
    let y = (rw c.in-Some.is at c.symbol_at.ensures) in
    λ e. apart_last true c.args.s.now c.loop-x.i c.args.b _ _ c.loop-x.invariant.within c.requires.to y.ends y.name c.loop-x.met _
    (c.bucket-k.ensures.value ∙ ap (bucket_of true) (lent c.args.s.now c.loop-x.i _ (omega (arith, y.name)))) c.if-met-k.false c.args.a
    c.loop-x.invariant.once c.if-x-b.true

pub overflow_add-i : goal.overflow_add-i
overflow_add-i c =
    let y = (rw c.in-Some.is at c.symbol_at.ensures) in
    omega (arith, within _ _ _ _ c.loop-x.invariant.within c.requires.to y.ends)

pub loop-x-preserved : goal.loop-x-preserved
loop-x-preserved c =
    let y = (rw c.in-Some.is at c.symbol_at.ensures) in record {
      within = omega (arith, within _ _ _ _ c.loop-x.invariant.within c.requires.to y.ends);
      numbers = search rules;
      plain =
          any_next c.args.s.now c.loop-x.i c.args.b _ c.loop-x.invariant.within c.requires.to y.ends
          (λ p. holds_of (NotSymbol c.args.limit) (qualifier p)) c.if-x-b.false
          (below_limit c.args.limit (part_in c.args.s.now c.loop-x.i c.in-Some.x.end)
          (part_in c.args.s.now c.loop-x.i c.in-Some.x.name_end) c.in-Some.x.number y.is (omega (arith, c.if-limit-x.false)))
          ∙ c.loop-x.invariant.plain;
      once =
          apart_next true c.args.s.now c.loop-x.i c.args.b _ _ c.loop-x.invariant.within c.requires.to y.ends y.name c.loop-x.met _
          (c.bucket-k.ensures.value ∙ ap (bucket_of true) (lent c.args.s.now c.loop-x.i _ (omega (arith, y.name)))) c.if-met-k.false c.args.a
          c.loop-x.invariant.once c.if-x-b.false (omega (arith, c.loop-x.invariant.numbers));
    }
