use Rattle.std.proofs.Common.{ℕ, ◌+◌, ◌-◌, ◌≤◌, length}
use Rattle.std.specs.Prelude.{Option}
use Rattle.job_form.specs.Lines.{Skips}
use Rattle.job_form.proofs.lines.skip_lines.Given as goal

-- The answer for skipping the lines that are left from m on is the answer for skipping all n lines from `at` on.
abbrev pub invariant-loop : goal.invariant-loop
invariant-loop l = record {
  inside : l.m ≤ length l.j + 1;
  skips : (r : Option ℕ) → Skips l.j l.m (l.n - l.counter) r → Skips l.j l.at l.n r;
}
