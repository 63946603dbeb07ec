use Prim.Native.Nat.{ℕ, ◌-◌, ◌≤◌}
use mathlib.Core.Path.{◌≡◌}
use mathlib.Core.List.{List}
use mathlib.Core.Bool.{Bool}
use Rattle.number.specs.Symbols.{first_in, passing}
use Rattle.number.proofs.symbol.first.Given as goal

-- The first symbol between i and b that passes the test is the first one between a and b.
abbrev pub invariant-loop-name : goal.invariant-loop-name
invariant-loop-name g l = record {
  callable : goal.F-IsAlwaysCallable g l.test;
  within : l.i ≤ l.b;
  same : (h : List ℕ → ℕ → Bool) → ((t : _) (v : ℕ) (r : Bool) → goal.F-post g l.test t v r → r ≡ h t.now v) → first_in (passing h) l.s l.i l.b ≡ first_in (passing h) l.s l.a l.b;
}

abbrev pub decreases-loop-name : goal.decreases-loop-name
decreases-loop-name g l = l.b - l.i
