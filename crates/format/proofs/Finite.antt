-- A rule for all numbers below a bound, by one test that antt computes.
use Prim.Native.Nat.{ℕ, zero, suc, ◌<◌}
use mathlib.Core.Path.{◌≡◌, refl, ap}
use mathlib.Core.Bool.{Bool, true, false, ◌&&◌}
use Rattle.std.specs.Prelude.{Option, None, Some}
use native.Mathlib.Omega.{arith}
use lib.Dec.{eqb, ltb}
use borrow.Author.Tests.{eqb-true, ltb-true, ltb-false}
use Rattle.format.proofs.Lists.{and_left, and_right}

abbrev pub all_below : (ℕ → Bool) → ℕ → Bool
all_below f zero = true
all_below f (suc n) = f n && all_below f n

pub at_each : (f : ℕ → Bool) (n : ℕ) → all_below f n ≡ true → (x : ℕ) → x < n → f x ≡ true
at_each f zero h x l = absurd (omega arith)
at_each f (suc n) h x l = by (ltb x n) refl (λ k. at_each f n (and_right (f n) (all_below f n) h) x k)
  where
    by : (b : Bool) → ltb x n ≡ b → (x < n → f x ≡ true) → f x ≡ true
    by true e ih = ih (ltb-true x n e)
    by false e ih = let q : x ≡ n = omega (arith, ltb-false x n e) in rw q (and_left (f n) (all_below f n) h)

-- two functions with the same values below a bound
abbrev pub same_option : Option ℕ → Option ℕ → Bool
same_option None None = true
same_option None (Some y) = false
same_option (Some x) None = false
same_option (Some x) (Some y) = eqb x y

same_option_lem : (o p : Option ℕ) → same_option o p ≡ true → o ≡ p
same_option_lem None None h = refl
same_option_lem None (Some y) h = cc
same_option_lem (Some x) None h = cc
same_option_lem (Some x) (Some y) h = ap Some (eqb-true x y h)

pub all_same : (n : ℕ) (f g : ℕ → Option ℕ) → all_below (λ x. same_option (f x) (g x)) n ≡ true → (x : ℕ) → x < n → f x ≡ g x
all_same n f g h x l = same_option_lem (f x) (g x) (at_each (λ x. same_option (f x) (g x)) n h x l)
