use Rattle.std.proofs.Common.{◌≡◌, ◌+◌, ◌-◌, ◌≤◌, length, drop}
use Rattle.format.specs.Lists.{span}
use Rattle.format.specs.Token.{quoted}
use Rattle.format.specs.Text.{string_value}
use Rattle.buffer.proofs.Values.{Begun}
use Rattle.escape.specs.Escapes.{no_escape}
use Rattle.text.proofs.read.escaped.Given as goal

-- The value of the octets before j is stored up to m; it, and the value from j on, are the whole value.
-- At j an escape begins, or the octets end.
abbrev pub invariant-loop-j : goal.invariant-loop-j
invariant-loop-j l = record {
  within : l.j ≤ length l.t;
  room : l.m + (length l.t - l.j) ≤ l.at + length l.t;
  escape : length (span no_escape (drop l.j l.t)).front ≡ 0;
  begun : Begun l.initial.out l.out l.at l.m (string_value (quoted l.t)) (string_value (quoted (drop l.j l.t)));
}

abbrev pub decreases-loop-j : goal.decreases-loop-j
decreases-loop-j l = length l.t - l.j
