-- Laws of a job's form, read section by section.
use Prim.Native.Nat.{ℕ, ◌+◌, ◌≤◌, ◌<◌}
use mathlib.Core.Path.{◌≡◌, refl, ap, ◌∙◌}
use mathlib.Core.Bool.{Bool, true, false, cond}
use mathlib.Core.List.{List, [], ◌∷◌}
use Rattle.std.specs.Prelude.{Option, None, Some}
use native.Mathlib.Omega.{arith}
use lib.Dec.{leb}
use lib.ListN.{length, take, drop, length-drop}
use lib.Seq.{sets-eq, take_at, take_all}
use borrow.Author.Tests.{le-leb}
use Rattle.format.specs.Lists.{◌>>=◌, provided, null}
use Rattle.format.specs.Octets.{ascii}
use Rattle.format.specs.Job.{Section, section, ended, origin_of, Job, job_of, max_job, written, job}
use Rattle.buffer.specs.Writing.{Wrote}
use Rattle.job_form.specs.declared.lines.Section.{Section as Cut}
use Rattle.job_form.specs.declared.form.Rest.{Rest}
use Rattle.job_form.specs.Lines.{lines_at, Sections}
use Rattle.job_form.specs.Form.{last_of, Lasts, After, after_of, Rests, job_within, Formed}
use Rattle.job_form.proofs.Places.{no_lines, line_some}

-- a section that nothing follows, and one that something follows
pub null_none : (ls : List (List ℕ)) → 1 ≤ length ls → null ls ≡ false
null_none [] h = absurd (omega arith)
null_none (l ∷ ls) h = refl

module _ (j : List ℕ) (at : ℕ) where
  module _ (s : Cut) (cut : Sections j at (Some s)) where
    last_cut : last_of (lines_at j at) ≡ provided (null (lines_at j s.to)) (take s.lines (lines_at j s.from))
    last_cut = rw cut.0

    pub followed : s.to < length j → last_of (lines_at j at) ≡ None
    followed h = rw (last_cut, null_none (lines_at j s.to) (line_some j s.to h))

    all_lines : length j ≤ s.to → length (lines_at j s.from) ≤ s.lines
    all_lines h = omega (arith, ap length (cut.1.later ∙ no_lines j s.to h), length-drop s.lines (lines_at j s.from))

    pub last_found : length j ≤ s.to → Lasts j at (Some s.from)
    last_found h = rw (last_cut, no_lines j s.to h, take_all s.lines (lines_at j s.from) (all_lines h))

-- the job
abbrev with_stanza : List ℕ → Option After → Option Job
with_stanza s x = x >>= λ a. Some (record { stanza = s; origin = a.origin; records = a.records })

after_order : (s : List ℕ) (o r : Section) (b : Bool) (x : Option (List ℕ))
    → (x >>= λ g. provided b (record { stanza = s; origin = g; records = r.body })) ≡ with_stanza s (provided b r.body >>= λ rs. x >>= λ g. Some (record { origin = g; records = rs }))
after_order s o r true None = refl
after_order s o r true (Some g) = refl
after_order s o r false None = refl
after_order s o r false (Some g) = refl

job_after : (xs : List ℕ) → job_of xs ≡ (section (lines_at xs 0) >>= λ s. with_stanza (ended s.body) (after_of s.later))
job_after xs = by (section (lines_at xs 0))
  where
    last : (s o : Section) (x : Option Section)
        → (x >>= λ r. origin_of o.body >>= λ g. provided (null r.later) (record { stanza = ended s.body; origin = g; records = r.body }))
        ≡ with_stanza (ended s.body) ((x >>= λ r. provided (null r.later) r.body) >>= λ rs. origin_of o.body >>= λ g. Some (record { origin = g; records = rs }))
    last s o None = refl
    last s o (Some r) = after_order (ended s.body) o r (null r.later) (origin_of o.body)

    origin : (s : Section) (x : Option Section)
        → (x >>= λ o. section o.later >>= λ r. origin_of o.body >>= λ g. provided (null r.later) (record { stanza = ended s.body; origin = g; records = r.body }))
        ≡ with_stanza (ended s.body) (x >>= λ o. last_of o.later >>= λ rs. origin_of o.body >>= λ g. Some (record { origin = g; records = rs }))
    origin s None = refl
    origin s (Some o) = last s o (section o.later)

    by : (x : Option Section)
        → (x >>= λ s. section s.later >>= λ o. section o.later >>= λ r. origin_of o.body >>= λ g. provided (null r.later) (record { stanza = ended s.body; origin = g; records = r.body }))
        ≡ (x >>= λ s. with_stanza (ended s.body) (after_of s.later))
    by None = refl
    by (Some s) = origin s (section s.later)

-- octets that are stored with room for all of them
pub stored_front : (before after t : List ℕ) (n : ℕ) → Wrote before after 0 n t → length t ≤ length before → take n after ≡ t
stored_front before after t n w h = rw (w.octets, sets-eq t before 0 (omega arith)) (take_at t (drop (0 + length t) before) n (omega (arith, w.count)))

module _ (j : List ℕ) (h : length j ≤ max_job) where
  within : job_within j ≡ job_of j
  within = rw (le-leb (length j) max_job h)

  module _ (s : Cut) (cut : Sections j 0 (Some s)) (before after : List ℕ) where
    job_cut : job_within j ≡ with_stanza (ended (take s.lines (lines_at j s.from))) (after_of (lines_at j s.to))
    job_cut = within ∙ job_after j ∙ rw cut.0

    pub formed : (r : Rest) → Rests j s.to before after (Some r) → 255 ≤ length before → Formed j after (record { from = s.from; to = s.to; origin = r.origin; records = r.records })
    formed r y b = record {
      job = rw (job_cut, y.found, cut.1.text (omega (arith, y.begins)), stored_front before after y.origin r.origin y.wrote (omega (arith, y.small)));
      short = h;
      stanza_after = cut.1.after;
      stanza_within = omega (arith, y.begins);
      origin_within = omega (arith, y.wrote.count, y.small);
    }

-- what is written
pub job_written : (xs : List ℕ) → job xs ≡ written (job_within xs)
unfolding job
job_written xs = by (leb (length xs) max_job)
  where
    by : (b : Bool) → cond b (written (job_of xs)) (ascii "bad job\n") ≡ written (cond b (job_of xs) None)
    by true = refl
    by false = refl
