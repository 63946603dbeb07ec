use Rattle.std.proofs.Common.{◌≡◌, ◌+◌, ◌*◌, drop}
use Rattle.buffer.proofs.Laws.{Left}
use Rattle.base.specs.Hex.{table_text}
use Rattle.base.proofs.print.hex_pairs.Given as goal

-- The octets so far are written; writing the others from m on would give the whole text.
abbrev pub invariant-loop-b : goal.invariant-loop-b
invariant-loop-b l = record {
  place : l.m ≡ l.at + 2 * l.b-index;
  left : Left l.initial.out l.at (table_text l.table l.xs) l.out l.m (table_text l.table (drop l.b-index l.xs));
}
