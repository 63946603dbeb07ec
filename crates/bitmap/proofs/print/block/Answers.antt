use Rattle.std.proofs.Common.{length, ◌≡◌, ◌-◌, arith}
use lib.Dec.{ltb}
use Rattle.format.specs.Bitmap.{at_octets}
use Rattle.format.specs.Catalogue.{type_text_in}
use Rattle.catalogue.specs.Known.{names_in}
use Rattle.buffer.proofs.Laws.{left_all}
use Rattle.bitmap.proofs.Texts.{known_short, types_left_lem, types_done}
use Rattle.bitmap.proofs.Blocks.{octet_types, no_octets, block_length}
use Rattle.bitmap.proofs.print.block.Goals as goal

pub loop-x-init : goal.loop-x-init
loop-x-init c = let z : length c.args.p.now - 0 ≡ length c.args.p.now = omega arith in record { order = omega arith; next = omega arith; left = rw z (left_all _ _ _) }

pub octet-m-requires-clause-place : goal.octet-m-requires-clause-place
octet-m-requires-clause-place c =
    omega (arith, c.loop-x.invariant.left.count, block_length (type_text_in (names_in c.args.c.now)) (known_short c.args.c.now) (ltb c.args.start c.args.at) (at_octets c.args.v (length c.args.p.now)) c.args.p.now)

pub loop-x-preserved : goal.loop-x-preserved
loop-x-preserved c = record {
  order = omega (arith, c.octet-m.ensures.count);
  next = omega arith;
  left = types_left_lem (type_text_in (names_in c.args.c.now)) (known_short c.args.c.now) c.args.start _ _ _ _ c.loop-x.invariant.left
      (octet_types c.args.p.now c.loop-x.x-index c.loop-x.t c.loop-x-test.true) c.loop-x.invariant.order c.octet-m.ensures;
}

pub returns : goal.returns
returns c =
    types_done (type_text_in (names_in c.args.c.now)) (ltb c.args.start c.loop-x.m) c.loop-x.invariant.left (no_octets c.args.p.now c.loop-x.x-index _ (omega arith))
