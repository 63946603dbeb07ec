use Rattle.std.proofs.Common.{◌≡◌, ◌+◌, ◌*◌, ◌/◌, drop}
use Rattle.format.specs.Lists.{flat}
use Rattle.format.specs.Base.{to_digits}
use Rattle.buffer.proofs.Laws.{Left}
use Rattle.base.specs.Alphabet.{chars}
use Rattle.base.proofs.print.groups.Given as goal

-- The groups so far are written; writing the digits of the others from m on would give those of all.
abbrev pub invariant-loop-xs : goal.invariant-loop-xs
invariant-loop-xs g l = record {
  place : l.m ≡ l.at + 8 * g.row.G / g.row.W * l.xs-index;
  left : Left l.initial.out l.at (chars l.alphabet (to_digits g.row.W (flat l.pieces))) l.out l.m (chars l.alphabet (to_digits g.row.W (flat (drop l.xs-index l.pieces))));
}
