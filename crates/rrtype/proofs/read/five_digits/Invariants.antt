use Prim.Native.Nat.{ℕ, ◌^◌, ◌≤◌, ◌<◌}
use mathlib.Core.Path.{◌≡◌}
use lib.ListN.{length}
use lib.Seq.{slice}
use Rattle.octets.proofs.Numbers.{value_from}
use Rattle.rrtype.proofs.read.five_digits.Given as goal

-- The first n digits make v; for every later end, going on from n gives the number up to that end.
abbrev pub invariant-loop-n : goal.invariant-loop-n
invariant-loop-n l = record {
  small : l.v < 10 ^ l.n;
  so_far : (e : ℕ) → l.n ≤ e → e ≤ length l.t → value_from l.v (slice l.n e l.t) ≡ value_from 0 (slice 0 e l.t);
}
