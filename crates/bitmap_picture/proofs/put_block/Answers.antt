use Rattle.std.proofs.Common.{sym, ◌∙◌, arith}
use Rattle.bitmap_picture.proofs.Windows.{front_length, some_block, empty_block}
use Rattle.buffer.proofs.Laws.{wrote_none, wrote_append, wrote_text}
use Rattle.bitmap_picture.proofs.put_block.Goals as goal

pub returns-then-is_empty-clause-block : goal.returns-then-is_empty-clause-block
returns-then-is_empty-clause-block c =
    wrote_text _ _ (empty_block c.args.w c.args.r.now (sym c.is_empty.ensures ∙ c.if-is_empty.true)) (wrote_none _ _)

pub overflow_cast-c : goal.overflow_cast-c
overflow_cast-c c = omega (arith, front_length c.args.r.now, c.count-c.ensures)

pub shared_ref_as_front-put_all : goal.shared_ref_as_front-put_all
shared_ref_as_front-put_all c = omega (arith, front_length c.args.r.now, c.count-c.ensures)

pub returns-clause-block : goal.returns-clause-block
returns-clause-block c =
    wrote_text _ _ (some_block c.args.w c.count-c.result c.args.r.now c.count-c.ensures (sym c.is_empty.ensures ∙ c.if-is_empty.false))
    (wrote_append c.put_octet-a.ensures (wrote_append c.put_octet-b.ensures c.put_all.ensures))
