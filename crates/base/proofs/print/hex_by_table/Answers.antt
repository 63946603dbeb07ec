use Rattle.std.proofs.Common.{◌≡◌, ◌+◌, ◌*◌, ◌%◌, ◌∷◌, get_or, drop, length-drop, arith}
use Rattle.buffer.proofs.Laws.{wrote_text, wrote_one, wrote_append, wrote_out}
use Rattle.base.specs.Hex.{table_text}
use Rattle.base.proofs.Hex.{table_length, table_count, table_parts}
use Rattle.base.proofs.print.hex_by_table.Goals as goal

pub returns : goal.returns
returns c =
    let t = c.args.table.now in
    let s = c.args.xs.now in
    let k = c.fitting-c.result in
    let w = c.hex_pairs-m.ensures in
    let m : c.hex_pairs-m.result ≡ c.args.at + 2 * k = omega (arith, w.count, table_count t s k (omega arith)) in
    wrote_text _ _ (table_parts t s k c.if-xs-c.false)
    (wrote_out _ (get_or t (get_or s k 0 % 16) 0 ∷ table_text t (drop (k + 1) s)) (wrote_append w (wrote_one _ _ _ _ (rw c.from.ensures at c.put.ensures))) (omega arith)
    (omega (arith, table_length t (drop (k + 1) s), length-drop (k + 1) s)))
