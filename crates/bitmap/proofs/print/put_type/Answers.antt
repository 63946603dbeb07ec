use borrow.Author.Tests.{lt-ltb, le-ltb}
use Rattle.format.specs.Catalogue.{type_text_in}
use Rattle.catalogue.specs.Known.{names_in}
use Rattle.buffer.proofs.Laws.{wrote_append, wrote_text}
use Rattle.bitmap.proofs.Texts.{later_one}
use Rattle.bitmap.proofs.print.put_type.Goals as goal

pub returns-then-start-at : goal.returns-then-start-at
returns-then-start-at c =
    rw (lt-ltb _ _ c.if-start-at.true)
    (wrote_text _ _ (later_one (type_text_in (names_in c.args.c.now)) c.args.v) (wrote_append c.put_octet-m.ensures c.number.ensures))

pub returns : goal.returns
returns c = rw (le-ltb _ _ c.if-start-at.false) c.number-2.ensures
