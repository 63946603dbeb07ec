use Rattle.std.proofs.Common.{◌+◌, ◌-◌, ◌≤◌, ◌≡◌, length, drop}
use Rattle.buffer.proofs.Values.{Begun}
use Rattle.name.specs.Name.{spelled}
use Rattle.name.proofs.read.labels.Given as goal

-- The labels before j are stored up to m; they, and what the text from j on spells, are the whole name.
abbrev pub invariant-loop-j : goal.invariant-loop-j
invariant-loop-j l = record {
  within : l.j ≤ length l.t;
  place : l.at ≤ l.m;
  short : l.m ≤ l.at + 255;
  room : length l.out ≡ length l.initial.out;
  begun : Begun l.initial.out l.out l.at l.m (spelled l.origin l.t) (spelled l.origin (drop l.j l.t));
}

abbrev pub decreases-loop-j : goal.decreases-loop-j
decreases-loop-j l = length l.t - l.j
