use Rattle.std.proofs.Common.{◌+◌, ◌-◌, ◌≤◌, ◌<◌, length}
use Rattle.name.proofs.Names.{Part}
use Rattle.name.proofs.read.label.Given as goal

-- The label's octets before j are stored up to m; put before the text from j on, they spell what it does from i on.
abbrev pub invariant-loop-j : goal.invariant-loop-j
invariant-loop-j l = record {
  after : l.i ≤ l.j;
  within : l.j ≤ length l.t;
  place : l.at + 1 ≤ l.m;
  short : l.m ≤ l.at + 64;
  some : length l.t ≤ l.j → l.at + 1 < l.m;
  part : Part l.initial.out l.out l.at l.m l.t l.i l.j;
}

abbrev pub decreases-loop-j : goal.decreases-loop-j
decreases-loop-j l = length l.t - l.j
