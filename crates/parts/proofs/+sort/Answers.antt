use mathlib.Core.List.Permᴰ
use mathlib.Core.Path.{sym, ◌∙◌}
use native.Mathlib.Omega.{arith}
use Rattle.parts.proofs.Halves.{rising_few, first_twice, second_twice, halves_sorted}
use Rattle.parts.proofs.+sort.Goals.{then-sort-via-then-sort, then-sort-via-else-sort+then-sort-2}
use Rattle.parts.proofs.+sort.Goals as goal

pub returns-then-m-eq0 : goal.returns-then-m-eq0
returns-then-m-eq0 t c =
    (Permᴰ.refl c.args.parts.now, rising_few c.args.ignoring c.args.s.now c.args.parts.now (omega (arith, c.if-m-eq0.true)))

pub returns-then-sort : goal.returns-then-sort
returns-then-sort t c =
    let v = c.split_at_mut-xs.result in
    elim c.then-sort.branch [
      | then-sort-via-then-sort w ↦
          first_twice c.args.ignoring c.args.s.now c.args.parts.now v.0.now v.1.now (sym c.split_at_mut-xs.ensures.value ∙ c.requires) c.sort.new.parts c.sort.result c.sort.ensures w.if-sort.true
      | then-sort-via-else-sort+then-sort-2 w ↦
          second_twice c.args.ignoring c.args.s.now c.args.parts.now v.0.now v.1.now (sym c.split_at_mut-xs.ensures.value ∙ c.requires) w.sort-else-sort.new.parts w.sort-else-sort.result w.sort-else-sort.ensures w.if-sort-2.true
    ]

pub returns : goal.returns
returns t c =
    let v = c.split_at_mut-xs.result in
    halves_sorted c.args.ignoring c.args.s.now c.args.parts.now v.0.now v.1.now (sym c.split_at_mut-xs.ensures.value ∙ c.requires) c.sort.new.parts c.sort-else-sort.new.parts c.sort.result c.sort-else-sort.result
    c.sort.ensures c.if-sort.false c.sort-else-sort.ensures c.if-sort-2.false c.merge.result c.merge.new.out c.merge.ensures
