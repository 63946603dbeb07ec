use Prim.Native.Nat.{◌+◌}
use lib.ListN.{length-set}
use Rattle.format.specs.Octets.{name_octet}
use Rattle.stanza_words.proofs.Laws.{not_comma, run_end, run_within}
use Rattle.stanza_distinct.proofs.Stored.{names_next, names_last}
use native.Mathlib.Omega.{arith}
use borrow.Author.Rules.{rules}
use Rattle.stanza_distinct.proofs.names.Goals as goal

pub returns-then-z-b : goal.returns-then-z-b
returns-then-z-b c =
    let i = c.loop-a.i in
    let d = names_last c.args.s.now c.args.a c.args.b i _ _ c.loop-a.invariant.within c.requires.to
    (run_end not_comma c.args.s.now i c.args.b _ c.loop-a.invariant.within c.skip.ensures)
    (run_end name_octet c.args.s.now i (i + c.skip.result) _ (omega arith) c.skip-in-loop-a.ensures) c.loop-a.list c.loop-a.other
    c.loop-a.n _ (omega arith) (omega arith) c.part-p.ensures c.loop-a.invariant.naming c.if-z-b.true in
    record { fits = omega (arith, length-set c.loop-a.list c.loop-a.n c.part-p.result); names = d.0; same = d.1 }

pub loop-a-preserved : goal.loop-a-preserved
loop-a-preserved c =
    let i = c.loop-a.i in
    let w = run_within not_comma c.args.s.now i c.args.b _ c.loop-a.invariant.within c.skip.ensures c.requires.to in record {
      within = omega arith;
      few = omega arith;
      list_long = search rules;
      other_long = search rules;
      naming =
          names_next c.args.s.now c.args.a c.args.b i _ _ c.loop-a.invariant.within c.requires.to
          (run_end not_comma c.args.s.now i c.args.b _ c.loop-a.invariant.within c.skip.ensures)
          (run_end name_octet c.args.s.now i (i + c.skip.result) _ (omega arith) c.skip-in-loop-a.ensures) c.loop-a.list c.loop-a.other
          c.loop-a.n _ (omega arith) (omega arith) c.part-p.ensures c.loop-a.invariant.naming c.if-z-b.false;
    }
