use Rattle.buffer.proofs.Laws.{wrote_append}
use Rattle.probe_reply.proofs.Replies.{numbers_most}
use native.Mathlib.Omega.{arith}
use Rattle.probe_reply.proofs.line.put_judged.Goals as goal

pub put_octet-requires : goal.put_octet-requires
put_octet-requires c =
    omega (arith, c.put_numbers-end.ensures.count, numbers_most c.args.reply.number c.args.reply.place)

pub returns : goal.returns
returns c =
    wrote_append c.put_numbers-end.ensures c.put_octet.ensures
