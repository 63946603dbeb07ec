use Rattle.std.proofs.Common.{◌-◌, ◌≤◌, length}
use Rattle.probe.proofs.answer_lines.Given as goal

-- The next line, from start to end, lies in the buffer; nothing is claimed of what is written.
abbrev pub invariant-loop-end : goal.invariant-loop-end
invariant-loop-end l = record {
  ordered : l.start ≤ l.end;
  inside : l.end ≤ length l.buf;
}

abbrev pub decreases-loop-end : goal.decreases-loop-end
decreases-loop-end l = length l.buf - l.end
