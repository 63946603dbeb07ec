use Rattle.std.proofs.Common.{◌+◌, ◌-◌, ◌*◌, ◌≤◌, ◌<◌, length, drop}
use Rattle.buffer.proofs.Laws.{Left}
use Rattle.name.proofs.Labels.{Named, dotted}
use Rattle.name.proofs.print.labels.Given as goal

-- The labels before j are written, a dot after each; writing the others from m on would give the whole text.
abbrev pub invariant-loop-j : goal.invariant-loop-j
invariant-loop-j l = record {
  within : l.j < length l.p;
  short : l.m ≤ l.at + 4 * l.j;
  named : Named (drop l.j l.p);
  left : Left l.initial.out l.at (dotted l.p) l.out l.m (dotted (drop l.j l.p));
}

abbrev pub decreases-loop-j : goal.decreases-loop-j
decreases-loop-j l = length l.p - l.j
