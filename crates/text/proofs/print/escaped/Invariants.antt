use Rattle.std.proofs.Common.{◌+◌, ◌-◌, ◌*◌, ◌≤◌, length, drop}
use Rattle.format.specs.Lists.{flat_map}
use Rattle.format.specs.Text.{string_escape}
use Rattle.buffer.proofs.Laws.{Left}
use Rattle.text.proofs.print.escaped.Given as goal

-- Up to j the octets are escaped and written; writing the rest from m on would give all that was left before the loop.
abbrev pub invariant-loop-j : goal.invariant-loop-j
invariant-loop-j l = record {
  within : l.j ≤ length l.p;
  short : l.m ≤ l.at + 4 * l.j;
  left : Left l.initial.out l.initial.m (flat_map string_escape (drop l.initial.j l.p)) l.out l.m (flat_map string_escape (drop l.j l.p));
}

abbrev pub decreases-loop-j : goal.decreases-loop-j
decreases-loop-j l = length l.p - l.j
