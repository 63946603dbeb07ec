use Rattle.buffer.proofs.Laws.{wrote_text}
use Rattle.base.proofs.Hex.{table_hex}
use Rattle.base.proofs.print.put_hex_upper.Goals as goal

pub returns : goal.returns
returns c = wrote_text _ _ (table_hex c.args.xs.now (λ k. (c.type_inv.xs k).fits)) c.hex_by_table.ensures
