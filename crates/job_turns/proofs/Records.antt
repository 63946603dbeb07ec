-- What is written for a job, record by record: a program that writes `bad job` for a bad form, else the line of each record, writes what the definition says.
use Prim.Native.Nat.{ℕ, ◌+◌, ◌≤◌}
use mathlib.Core.Path.{◌≡◌, ap, ◌∙◌}
use mathlib.Core.List.{List, [], ◌++◌}
use Rattle.std.specs.Prelude.{None}
use lib.ListN.{length}
use lib.Seq.{slice}
use Rattle.format.specs.Lists.{flat_map}
use Rattle.format.specs.Job.{record_line, written, job}
use Rattle.job_form.specs.Lines.{lines_at, NextLine}
use Rattle.job_form.specs.declared.form.Places.{Places}
use Rattle.job_form.specs.Form.{job_within, job_at, Formed}
use Rattle.job_form.proofs.Places.{no_lines}
use Rattle.job_form.proofs.Forms.{job_written}

pub bad_written : (j : List ℕ) → job_within j ≡ None → job j ≡ written None
bad_written j f = job_written j ∙ ap written f

pub good_written : (j buffer : List ℕ) (p : Places) → Formed j buffer p → job j ≡ flat_map (record_line (job_at j buffer p)) (lines_at j p.records)
good_written j buffer p f = job_written j ∙ ap written f.job

-- the lines of the records from a place on: the next one, then those after it; or none
module _ (f : List ℕ → List ℕ) (j : List ℕ) (at : ℕ) where
  pub next_written : (e : ℕ) → NextLine j at e → flat_map f (lines_at j at) ≡ f (slice at e j) ++ flat_map f (lines_at j (e + 1))
  next_written e l = ap (flat_map f) l.lines

  pub none_written : length j ≤ at → flat_map f (lines_at j at) ≡ []
  none_written h = ap (flat_map f) (no_lines j at h)
