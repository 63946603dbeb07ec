-- The run of zero groups that an AAAA's text leaves out.
use Rattle.std.specs.Prelude.{ℕ, ◌+◌, ◌≤◌, ◌≡◌, List, length, take, drop}
use Rattle.format.specs.Address.{longest_zeros, before_run, after_run}

-- The first of the longest runs of zero groups stands after `at` groups and has `count`.
pub record Longest (gs : List ℕ) (at count : ℕ) : Type 0 where
  pub longest : count ≡ longest_zeros gs
  pub before : take at gs ≡ before_run count gs
  pub after : drop (at + count) gs ≡ after_run count gs
  pub within : at + count ≤ length gs
