-- A job that is answered in turns.
use Rattle.std.specs.Prelude.{ℕ, ◌≤◌, ◌<◌, ◌≡◌, List, [], ◌∷◌, ◌++◌, length, take}
use Rattle.std.specs.Prelude.{Option, None, Some}
use Rattle.std.proofs.Math.Seq.{slice}
use Rattle.format.specs.Lists.{flat_map, flat}
use Rattle.format.specs.Stored.{as_file}
use Rattle.format.specs.Job.{record_line, written, job}
use Rattle.stanza_judge.specs.Stanza.{Outlined}
use Rattle.buffer.specs.Writing.{Wrote}
use Rattle.job_form.specs.Lines.{lines_at}
use Rattle.job_form.specs.Form.{job_within, job_at, Formed}
use Rattle.job_turns.specs.declared.Job.{Job}
use Rattle.job_turns.specs.declared.Turn.{Turn}

-- the form is read, and the stanza is judged
pub record Begun (j : List ℕ) (b : Job) : Type 0 where
  pub form : Formed j b.origin b.places
  pub judged : Outlined (as_file (slice b.places.from b.places.to j)) (slice b.places.from b.places.to j) b.codes b.outline

-- or it is broken
abbrev pub Begins : List ℕ → Option Job → Type 0
Begins j None = job_within j ≡ None
Begins j (Some b) = Begun j b

-- where the first record stands
abbrev pub first_at : Option Job → ℕ
first_at None = 0
first_at (Some b) = b.places.records

-- what is still to be written, from the record at `at` on
abbrev pub left_at : List ℕ → Option Job → ℕ → List ℕ
left_at j None at = written None
left_at j (Some b) at = flat_map (record_line (job_at j b.origin b.places)) (lines_at j at)

-- what is still to be written, if a rest begins somewhere
abbrev pub left_from : List ℕ → Option Job → Option ℕ → List ℕ
left_from j b None = []
left_from j b (Some at) = left_at j b at

-- A turn wrote the first part of that, and answered where the rest begins, if there is one.
pub record Turns (j : List ℕ) (b : Option Job) (at : ℕ) (before after : List ℕ) (r : Turn) : Type 0 where
  pub text : List ℕ
  pub wrote : Wrote before after 0 r.taken text
  pub fits : r.taken ≤ length before
  pub rest : text ++ left_from j b r.rest ≡ left_at j b at
  pub further : (m : ℕ) → r.rest ≡ Some m → (at < m) × (m < length j)

-- What each of several turns in a row writes, from the one at `at` to the last.
pub data AllTurns (j : List ℕ) (b : Option Job) : ℕ → List (List ℕ) → Type 0 where
  last : {at : ℕ} {before after : List ℕ} {r : Turn} → Turns j b at before after r → r.rest ≡ None → AllTurns j b at (take r.taken after ∷ [])
  before_others : {at m : ℕ} {before after : List ℕ} {r : Turn} {ws : List (List ℕ)} → Turns j b at before after r → r.rest ≡ Some m → AllTurns j b m ws
      → AllTurns j b at (take r.taken after ∷ ws)

-- The job: "One line per record comes out". Turns in a row, from the one at the first record to the last, together write what the
-- definition gives for the input.
abbrev pub TurnsJob : Type 0
TurnsJob = (j : List ℕ) (b : Option Job) → Begins j b → (ws : List (List ℕ)) → AllTurns j b (first_at b) ws → flat ws ≡ job j
