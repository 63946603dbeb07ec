use Rattle.buffer.proofs.Laws.{wrote_append}
use Rattle.probe_reply.proofs.Replies.{numbers_most, octets_most}
use native.Mathlib.Omega.{arith}
use Rattle.probe_reply.proofs.line.put_result.Goals as goal

pub put_octet-blank-requires : goal.put_octet-blank-requires
put_octet-blank-requires c =
    omega (arith, c.put_numbers-end.ensures.count, numbers_most c.args.reply.number c.args.reply.place)

pub put_octets-last-requires-clause-place : goal.put_octets-last-requires-clause-place
put_octets-last-requires-clause-place c =
    omega (arith, c.put_octet-blank.ensures.count, c.put_numbers-end.ensures.count, numbers_most c.args.reply.number c.args.reply.place)

pub put_octet-requires : goal.put_octet-requires
put_octet-requires c =
    omega (
      arith,
      c.put_octets-last.ensures.count,
      c.put_octet-blank.ensures.count,
      c.put_numbers-end.ensures.count,
      numbers_most c.args.reply.number c.args.reply.place,
      octets_most c.args.octets.now,
      c.requires,
    )

pub returns : goal.returns
returns c =
    wrote_append (wrote_append (wrote_append c.put_numbers-end.ensures c.put_octet-blank.ensures) c.put_octets-last.ensures)
    c.put_octet.ensures
