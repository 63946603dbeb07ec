use Prim.Native.Nat.{◌+◌}
use mathlib.Core.Path.{ap, ◌∙◌}
use Rattle.format.specs.Octets.{name_octet}
use Rattle.octets.proofs.Slices.{lent}
use Rattle.stanza_words.proofs.Laws.{not_comma, run_end, run_within}
use Rattle.stanza_distinct.specs.Distinct.{bucket_of}
use Rattle.stanza_distinct.proofs.Buckets.{apart_last, apart_next}
use native.Mathlib.Omega.{arith}
use borrow.Author.Rules.{rules}
use Rattle.stanza_distinct.proofs.apart.Goals as goal

pub returns-then-z-b : goal.returns-then-z-b
returns-then-z-b c =
    let i = c.loop-met.i in
    λ x. apart_last c.args.ignoring c.args.s.now i c.args.b _ _ c.loop-met.invariant.within c.requires.to
    (run_end not_comma c.args.s.now i c.args.b _ c.loop-met.invariant.within c.skip.ensures)
    (run_end name_octet c.args.s.now i (i + c.skip.result) _ (omega arith) c.skip-in-loop-met.ensures) c.loop-met.met _
    (c.bucket-k.ensures.value ∙ ap (bucket_of c.args.ignoring) (lent c.args.s.now i _ (omega arith))) c.if-met-k.false c.args.a
    c.loop-met.invariant.once c.if-z-b.true

pub loop-met-preserved : goal.loop-met-preserved
loop-met-preserved c =
    let i = c.loop-met.i in record {
      within = omega (arith, run_within not_comma c.args.s.now i c.args.b _ c.loop-met.invariant.within c.skip.ensures c.requires.to);
      numbers = search rules;
      once =
          apart_next c.args.ignoring c.args.s.now i c.args.b _ _ c.loop-met.invariant.within c.requires.to
          (run_end not_comma c.args.s.now i c.args.b _ c.loop-met.invariant.within c.skip.ensures)
          (run_end name_octet c.args.s.now i (i + c.skip.result) _ (omega arith) c.skip-in-loop-met.ensures) c.loop-met.met _
          (c.bucket-k.ensures.value ∙ ap (bucket_of c.args.ignoring) (lent c.args.s.now i _ (omega arith))) c.if-met-k.false
          c.args.a c.loop-met.invariant.once c.if-z-b.false (omega (arith, c.loop-met.invariant.numbers));
    }
