use mathlib.Core.Path.{refl}
use native.Mathlib.Omega.{arith}
use lib.ListN.{get_or}
use Rattle.catalogue_judge.specs.Judging.{same_as}
use Rattle.catalogue_judge.proofs.Marks.{any_found, none_next, names_other, spelled_same}
use Rattle.catalogue_judge.proofs.Numbered.exact_again.Goals.{then-self-j+else-same_long, else-self-j}
use Rattle.catalogue_judge.proofs.Numbered.exact_again.Goals as goal

pub spelled-name-requires : goal.spelled-name-requires
spelled-name-requires c = (c.args.self.now.hashed c.args.k (omega arith)).in_text

pub spelled-other-requires : goal.spelled-other-requires
spelled-other-requires c = (c.args.self.now.hashed c.loop-j.j (omega (arith, c.requires, c.loop-j-test.true))).in_text

pub returns-then-same_long : goal.returns-then-same_long
returns-then-same_long c =
    let s = c.args.self.now in
    let v = get_or s.entries.now c.loop-j.j 0 in
    let w = get_or s.entries.now c.args.k 0 in
    any_found (same_as s.names.now w) s.entries.now c.args.k c.loop-j.j c.loop-j-test.true (omega (arith, c.requires, s.within)) _
    (spelled_same s.names.now v w _ _ _ c.spelled-other.ensures c.spelled-name.ensures c.same_long.ensures) c.if-same_long.true

pub loop-j-preserved : goal.loop-j-preserved
loop-j-preserved c =
    let s = c.args.self.now in
    let v = get_or s.entries.now c.loop-j.j 0 in
    let w = get_or s.entries.now c.args.k 0 in
    elim c.if-self-j.branch [
      | then-self-j+else-same_long b ↦
          none_next (same_as s.names.now w) s.entries.now c.args.k c.loop-j.j c.loop-j-test.true (omega (arith, c.requires, s.within)) _
          (spelled_same s.names.now v w _ _ _ b.spelled-other.ensures c.spelled-name.ensures b.same_long.ensures) c.loop-j.invariant b.if-same_long.false
      | else-self-j b ↦
          none_next (same_as s.names.now w) s.entries.now c.args.k c.loop-j.j c.loop-j-test.true (omega (arith, c.requires, s.within)) _
          (names_other s.names.now v _ w _ (s.hashed c.loop-j.j (omega (arith, c.requires, c.loop-j-test.true))) (s.hashed c.args.k (omega (arith, c.requires))) b.if-self-j.false) c.loop-j.invariant refl
    ]
