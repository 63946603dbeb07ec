-- What the code's answers for lines and sections mean, by the definitions of document 01.
use Rattle.std.specs.Prelude.{ℕ, ◌+◌, ◌≤◌, ◌<◌, ◌≡◌, List, ◌∷◌, ◌++◌, [], length, take, drop}
use Rattle.std.specs.Prelude.{Option, None, Some}
use Rattle.std.proofs.Math.Seq.{slice}
use Rattle.format.specs.Lines.{lines_of}
use Rattle.format.specs.Job.{section, ended}
use Rattle.job_form.specs.declared.lines.Section.{Section}

-- the lines from a place on
abbrev pub lines_at : List ℕ → ℕ → List (List ℕ)
lines_at j at = lines_of (drop at j)

-- the first of these lines ends at e, and the others follow its LF
pub record NextLine (j : List ℕ) (at e : ℕ) : Type 0 where
  pub lines : lines_at j at ≡ slice at e j ∷ lines_at j (e + 1)
  pub text : e < length j → slice at (e + 1) j ≡ slice at e j ++ 10 ∷ []
  pub after : at ≤ e
  pub within : e ≤ length j

-- the line that begins at a place, if one does
abbrev pub SomeLine : List ℕ → ℕ → Option ℕ → Type 0
SomeLine j at None = length j ≤ at
SomeLine j at (Some e) = NextLine j at e

-- The first n lines end before the place `to`, where the others begin. If the last of them has its LF, all of them have.
pub record LinesTo (j : List ℕ) (at n to : ℕ) : Type 0 where
  pub enough : n ≤ length (lines_at j at)
  pub later : drop n (lines_at j at) ≡ lines_at j to
  pub text : to ≤ length j → ended (take n (lines_at j at)) ≡ slice at to j
  pub after : at ≤ to
  pub within : to ≤ length j + 1

abbrev pub Skips : List ℕ → ℕ → ℕ → Option ℕ → Type 0
Skips j at n None = length (lines_at j at) < n
Skips j at n (Some to) = LinesTo j at n to

-- a section's lines, and the lines after it
abbrev pub Sections : List ℕ → ℕ → Option Section → Type 0
Sections j at None = section (lines_at j at) ≡ None
Sections j at (Some s) = (section (lines_at j at) ≡ Some (record { body = take s.lines (lines_at j s.from); later = lines_at j s.to })) × LinesTo j s.from s.lines s.to
