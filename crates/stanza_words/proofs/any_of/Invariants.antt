use Prim.Native.Nat.{◌-◌, ◌≤◌}
use mathlib.Core.Path.{◌≡◌}
use Rattle.stanza_words.specs.Qualifiers.{any_in}
use Rattle.stanza_words.proofs.any_of.Given as goal

-- The test holds of a qualifier between i and b exactly if it holds of one between a and b.
abbrev pub invariant-loop-test : goal.invariant-loop-test
invariant-loop-test l = record {
  within : l.i ≤ l.b;
  same : any_in l.test l.s l.i l.b ≡ any_in l.test l.s l.a l.b;
}

abbrev pub decreases-loop-test : goal.decreases-loop-test
decreases-loop-test l = l.b - l.i
