use lib.Dec.{ltb}
use Rattle.format.specs.Catalogue.{type_text_in}
use Rattle.catalogue.specs.Known.{names_in}
use Rattle.buffer.proofs.Laws.{wrote_none}
use Rattle.bitmap.proofs.Texts.{no_types, bit_set}
use Rattle.bitmap.proofs.print.put_if.Goals as goal

pub returns-then-bit-eq0 : goal.returns-then-bit-eq0
returns-then-bit-eq0 c =
    rw (c.if-bit-eq0.true, no_types (type_text_in (names_in c.args.c.now)) (ltb c.args.start c.args.at)) (wrote_none _ _)

pub returns : goal.returns
returns c = rw (bit_set c.args.v c.args.bit c.if-bit-eq0.false) c.put_type.ensures
