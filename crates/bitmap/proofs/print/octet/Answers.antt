use Rattle.std.proofs.Common.{arith}
use lib.Dec.{ltb}
use Rattle.format.specs.Catalogue.{type_text_in}
use Rattle.catalogue.specs.Known.{names_in}
use Rattle.bitmap.proofs.Texts.{known_short, types_done, types_left_lem, octet_length, octet_within, octet_left, bit_there}
use Rattle.bitmap.proofs.Texts.{bit_within, bit_next, bits_done}
use Rattle.bitmap.proofs.print.octet.Goals as goal

pub loop-y-init : goal.loop-y-init
loop-y-init c = record {
  order = omega arith;
  rising = omega arith;
  within = octet_within c.args.v c.args.x;
  left = octet_left c.args.v c.args.x _ _ _ (ltb c.args.start c.args.at) (omega arith);
}

pub put_if-m-requires-clause-place : goal.put_if-m-requires-clause-place
put_if-m-requires-clause-place c =
    omega (arith, c.loop-y.invariant.left.count, octet_length (type_text_in (names_in c.args.c.now)) (known_short c.args.c.now) (ltb c.args.start c.args.at) c.args.v c.args.x)

pub put_if-m-requires-clause-type_no : goal.put_if-m-requires-clause-type_no
put_if-m-requires-clause-type_no c =
    let h = bit_there c.args.v c.loop-y.t c.loop-y.y c.loop-y.invariant.within c.loop-y-test.true in omega arith

pub overflow_add-t : goal.overflow_add-t
overflow_add-t c =
    let h = bit_there c.args.v c.loop-y.t c.loop-y.y c.loop-y.invariant.within c.loop-y-test.true in omega arith

pub loop-y-smaller : goal.loop-y-smaller
loop-y-smaller c =
    let h = bit_there c.args.v c.loop-y.t c.loop-y.y c.loop-y.invariant.within c.loop-y-test.true in omega arith

pub loop-y-preserved : goal.loop-y-preserved
loop-y-preserved c = record {
  order = omega (arith, c.put_if-m.ensures.count);
  rising = omega arith;
  within = bit_within c.args.v c.loop-y.t c.loop-y.y c.loop-y.invariant.within c.loop-y-test.true;
  left = types_left_lem (type_text_in (names_in c.args.c.now)) (known_short c.args.c.now) c.args.start _ _ _ _ c.loop-y.invariant.left
      (bit_next c.args.v c.loop-y.t c.loop-y.y c.loop-y.invariant.within c.loop-y-test.true) c.loop-y.invariant.order
      c.put_if-m.ensures;
}

pub returns : goal.returns
returns c =
    types_done (type_text_in (names_in c.args.c.now)) (ltb c.args.start c.loop-y.m) c.loop-y.invariant.left
    (bits_done c.args.v c.loop-y.t c.loop-y.y c.loop-y-test.false)
