use Rattle.std.proofs.Common.{◌+◌, ◌-◌, ◌≡◌, take, drop, length, get_or, length-take, length-drop, arith}
use mathlib.Core.Bool.{false}
use lib.Dec.{ltb}
use borrow.Author.Tests.{le-ltb}
use Rattle.format.specs.Catalogue.{type_text_in}
use Rattle.format.specs.Bitmap.{at_window}
use Rattle.catalogue.specs.Known.{names_in}
use Rattle.buffer.proofs.Laws.{left_all}
use Rattle.bitmap.proofs.Texts.{known_short, types_left_lem, types_done}
use Rattle.bitmap.proofs.Blocks.{whole_first, count_there, block_there, block_types, block_length, no_octets}
use Rattle.bitmap.proofs.print.field.Goals as goal

pub loop-j-init : goal.loop-j-init
loop-j-init c = record {
  order = omega arith;
  within = omega arith;
  left = rw (le-ltb c.args.at c.args.at (omega arith)) (left_all _ _ _);
  whole = whole_first _ c.requires.whole;
}

pub bounds-p-j : goal.bounds-p-j
bounds-p-j c = count_there c.args.p.now c.loop-j.j c.loop-j-test.true c.loop-j.invariant.whole

pub slice_bounds-block-end : goal.slice_bounds-block-end
slice_bounds-block-end c =
    omega (arith, c.from.ensures, block_there c.args.p.now c.loop-j.j c.loop-j-test.true c.loop-j.invariant.whole)

pub block-m-requires-clause-place : goal.block-m-requires-clause-place
block-m-requires-clause-place c =
    omega (arith, c.loop-j.invariant.left.count, block_length (type_text_in (names_in c.args.c.now)) (known_short c.args.c.now) false at_window c.args.p.now)

pub block-m-requires-clause-type_no : goal.block-m-requires-clause-type_no
block-m-requires-clause-type_no c =
    let j = c.loop-j.j in
    let p = c.args.p.now in
    let b = block_there p j c.loop-j-test.true c.loop-j.invariant.whole in
    let k = j + 2 + c.from.result - (j + 2) in
    omega (arith, b, c.from.ensures, c.from-in-loop-j.ensures, c.type_inv.p j, length-take k (drop (j + 2) p))

pub loop-j-preserved : goal.loop-j-preserved
loop-j-preserved c =
    let j = c.loop-j.j in
    let p = c.args.p.now in
    let b = block_there p j c.loop-j-test.true c.loop-j.invariant.whole in
    let r = c.from.result in
    let e : r ≡ get_or p (j + 1) 0 = c.from.ensures in
    let z : j + 2 + r - (j + 2) ≡ r = omega arith in
    let n : length (take r (drop (j + 2) p)) ≡ r = omega (arith, length-take r (drop (j + 2) p), length-drop (j + 2) p, b, e) in
    record {
      order = omega (arith, c.block-m.ensures.count);
      within = omega (arith, b, e);
      left = types_left_lem (type_text_in (names_in c.args.c.now)) (known_short c.args.c.now) c.args.at _ _ _ _ c.loop-j.invariant.left
          (block_types p j r _ (count_there p j c.loop-j-test.true c.loop-j.invariant.whole) e (omega (arith, b, e)) n) c.loop-j.invariant.order
          (rw (z, c.from-in-loop-j.ensures) at c.block-m.ensures);
      whole = rw e b.2;
    }

pub returns : goal.returns
returns c =
    types_done (type_text_in (names_in c.args.c.now)) (ltb c.args.at c.loop-j.m) c.loop-j.invariant.left (no_octets c.args.p.now c.loop-j.j at_window (omega arith))
