-- What the code's answers for a job's form mean, by the definitions of document 01.
use Rattle.std.specs.Prelude.{ℕ, ◌≤◌, ◌<◌, ◌≡◌, cond, List, leb, length, take}
use Rattle.std.specs.Prelude.{Option, None, Some}
use Rattle.std.proofs.Math.Seq.{slice}
use Rattle.format.specs.Lists.{◌>>=◌, provided, null}
use Rattle.format.specs.Job.{section, origin_of, Job, job_of, max_job}
use Rattle.buffer.specs.Writing.{Wrote}
use Rattle.job_form.specs.Lines.{lines_at}
use Rattle.job_form.specs.declared.form.Rest.{Rest}
use Rattle.job_form.specs.declared.form.Places.{Places}

-- "Nothing follows the last section"
abbrev pub last_of : List (List ℕ) → Option (List (List ℕ))
last_of ls = section ls >>= λ r. provided (null r.later) r.body

abbrev pub Lasts : List ℕ → ℕ → Option ℕ → Type 0
Lasts j at None = last_of (lines_at j at) ≡ None
Lasts j at (Some from) = last_of (lines_at j at) ≡ Some (lines_at j from)

-- what the sections after the stanza hold
pub record After : Type 0 where
  pub origin : List ℕ
  pub records : List (List ℕ)

abbrev pub after_of : List (List ℕ) → Option After
after_of ls = do
  o ← section ls
  records ← last_of o.later
  origin ← origin_of o.body
  Some (record { origin = origin; records = records })

-- the sections after the stanza are found, and the origin's n octets stand at the start of the buffer
pub record AfterAt (j : List ℕ) (at : ℕ) (before after : List ℕ) (n records : ℕ) : Type 0 where
  pub origin : List ℕ
  pub found : after_of (lines_at j at) ≡ Some (record { origin = origin; records = lines_at j records })
  pub wrote : Wrote before after 0 n origin
  pub small : length origin ≤ 255
  pub begins : at < length j

abbrev pub Rests : List ℕ → ℕ → List ℕ → List ℕ → Option Rest → Type 0
Rests j at before after None = after_of (lines_at j at) ≡ None
Rests j at before after (Some r) = AfterAt j at before after r.origin r.records

-- "a job of at most 65,535 octets"
abbrev pub job_within : List ℕ → Option Job
job_within xs = cond (leb (length xs) max_job) (job_of xs) None

-- The job, given its places: the stanza's octets, the origin at the start of the buffer, and the lines from the first record on.
abbrev pub job_at : List ℕ → List ℕ → Places → Job
job_at j buffer p = record { stanza = slice p.from p.to j; origin = take p.origin buffer; records = lines_at j p.records }

pub record Formed (j buffer : List ℕ) (p : Places) : Type 0 where
  pub job : job_within j ≡ Some (job_at j buffer p)
  pub short : length j ≤ max_job
  pub stanza_after : p.from ≤ p.to
  pub stanza_within : p.to ≤ length j
  pub origin_within : p.origin ≤ 255

abbrev pub Forms : List ℕ → List ℕ → Option Places → Type 0
Forms j buffer None = job_within j ≡ None
Forms j buffer (Some p) = Formed j buffer p
