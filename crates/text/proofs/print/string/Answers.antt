use Rattle.std.proofs.Common.{arith}
use Rattle.buffer.proofs.Laws.{wrote_append}
use Rattle.text.proofs.Strings.{escapes_length}
use Rattle.text.proofs.print.string.Goals as goal

pub put_octet-requires : goal.put_octet-requires
put_octet-requires c = omega (arith, c.escaped-b.ensures.count, c.put_octet-a.ensures.count, escapes_length c.args.p.now)

pub returns : goal.returns
returns c = wrote_append (wrote_append c.put_octet-a.ensures c.escaped-b.ensures) c.put_octet.ensures
