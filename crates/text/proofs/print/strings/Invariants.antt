use Rattle.std.proofs.Common.{◌+◌, ◌-◌, ◌*◌, ◌≤◌, length, drop}
use Rattle.format.specs.Text.{pieces}
use Rattle.buffer.proofs.Laws.{Left}
use Rattle.text.proofs.Strings.{Whole, others}
use Rattle.text.proofs.print.strings.Given as goal

-- The strings before j are written; writing the others from m on, a space before each, would give all after the first.
abbrev pub invariant-loop-j : goal.invariant-loop-j
invariant-loop-j l = record {
  begun : 1 ≤ l.j;
  within : l.j ≤ length l.p;
  short : l.m ≤ l.at + 4 * l.j;
  whole : Whole (drop l.j l.p);
  left : Left l.initial.out l.initial.m (others (pieces (drop l.initial.j l.p))) l.out l.m (others (pieces (drop l.j l.p)));
}

abbrev pub decreases-loop-j : goal.decreases-loop-j
decreases-loop-j l = length l.p - l.j
