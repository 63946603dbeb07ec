use Rattle.buffer.proofs.Laws.{wrote_text, wrote_append}
use Rattle.address.proofs.GroupTexts.{four_digits}
use Rattle.address.proofs.print.group.Goals as goal

pub returns : goal.returns
returns c =
    wrote_text _ _ (four_digits c.args.v c.if-v-lt4096.false c.requires.group)
    (wrote_append c.put_hex_octet-m.ensures c.put_hex_octet-2.ensures)
