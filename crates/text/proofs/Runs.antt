-- The run of elements at the front of a list that pass a test, found in blocks.
use Prim.Native.Nat.{ℕ, ◌+◌, ◌≤◌}
use mathlib.Core.Path.{◌≡◌, sym, ap, ◌∙◌}
use mathlib.Core.Bool.{Bool, true}
use mathlib.Core.List.{List}
use native.Mathlib.Omega.{arith}
use lib.ListN.{length, take, drop, take-append-drop}
use lib.Seq.{length-take-le}
use Rattle.std.proofs.lemmas.List.{drop-drop}
use Rattle.format.specs.Lists.{all_of, span}
use Rattle.octets.proofs.Slices.{span_length}
use Rattle.octets.proofs.Blocks.{span_all}

module _ (f : ℕ → Bool) where
  -- a block that passes
  block_on : (n : ℕ) (xs : List ℕ) → n ≤ length xs → all_of f (take n xs) ≡ true → n + length (span f (drop n xs)).front ≡ length (span f xs).front
  block_on n xs h a =
      sym (ap (λ t. length (span f t).front) (sym (take-append-drop n xs)) ∙ span_all f (take n xs) (drop n xs) a ∙ ap (λ k. k + length (span f (drop n xs)).front) (length-take-le n xs h))

  pub run_on : (n j : ℕ) (t : List ℕ) → n ≤ length (drop j t) → all_of f (take n (drop j t)) ≡ true
      → j + n + length (span f (drop (j + n) t)).front ≡ j + length (span f (drop j t)).front
  run_on n j t h a = omega (arith, block_on n (drop j t) h a, ap (λ s. length (span f s).front) (drop-drop n j t))

  pub run_within : (n : ℕ) (t : List ℕ) → n ≡ length (span f t).front → n ≤ length t
  run_within n t p = omega (arith, span_length f t)
