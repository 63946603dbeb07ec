-- Laws of a job that is answered in turns.
use Prim.Native.Nat.{ℕ, suc, ◌+◌, ◌-◌, ◌*◌, ◌≤◌, ◌<◌}
use mathlib.Core.Path.{◌≡◌, refl, sym, ap, ◌∙◌}
use mathlib.Core.List.{List, [], ◌++◌, append_assoc}
use Rattle.std.specs.Prelude.{Option, None, Some}
use native.Mathlib.Omega.{arith}
use lib.ListN.{length, take, drop}
use lib.Seq.{slice, sets-eq, take_at}
use Rattle.format.specs.Lists.{flat_map, flat}
use Rattle.format.specs.Stored.{as_file}
use Rattle.format.specs.Job.{written, job}
use Rattle.octets.proofs.Slices.{lent}
use Rattle.stanza_judge.specs.declared.Outline.{Outline}
use Rattle.stanza_judge.specs.Stanza.{Outlined}
use Rattle.buffer.specs.Writing.{Wrote}
use Rattle.buffer.proofs.Laws.{wrote_none, wrote_append, wrote_length}
use Rattle.job_form.specs.Lines.{lines_at, NextLine}
use Rattle.job_record.specs.Answer.{line_under}
use Rattle.job_turns.specs.declared.Job.{Job}
use Rattle.job_turns.specs.declared.Turn.{Turn}
use Rattle.job_turns.specs.Job.{Begins, first_at, left_at, Turns, AllTurns, last, before_others, TurnsJob}
use Rattle.job_line.proofs.Answers.{record_most}
use Rattle.job_turns.proofs.Records.{bad_written, good_written, next_written, none_written}

-- the parts of a job that are lent to a call
pub outlined_part : (j : List ℕ) (from to : ℕ) (codes : List ℕ) (o : Outline) → from ≤ to → Outlined (as_file (take (to - from) (drop from j))) (take (to - from) (drop from j)) codes o → Outlined (as_file (slice from to j)) (slice from to j) codes o
outlined_part j from to codes o h q = rw (lent j from to h) at q

pub outlined_lent : (j : List ℕ) (from to : ℕ) (codes : List ℕ) (o : Outline) → from ≤ to → Outlined (as_file (slice from to j)) (slice from to j) codes o → Outlined (as_file (take (to - from) (drop from j))) (take (to - from) (drop from j)) codes o
outlined_lent j from to codes o h q = rw (lent j from to h) q

pub line_lent : (j origin : List ℕ) (from to m e : ℕ) → from ≤ to → m ≤ e
    → line_under (take (to - from) (drop from j)) origin (take (e - m) (drop m j)) ≡ line_under (slice from to j) origin (slice m e j)
line_lent j origin from to m e h k = rw (lent j from to h, lent j m e k)

-- A turn has reached m: the text so far, of at most the longest line for each record, and the lines of the records from m on are what was to be written.
pub record Reached (f : List ℕ → List ℕ) (j : List ℕ) (at : ℕ) (before now : List ℕ) (m n : ℕ) : Type 0 where
  pub text : List ℕ
  pub wrote : Wrote before now 0 n text
  pub fits : n ≤ length before
  pub rest : text ++ flat_map f (lines_at j m) ≡ flat_map f (lines_at j at)
  pub after : at ≤ m
  pub few : n ≤ (m - at) * 131074

pub reached_none : (f : List ℕ → List ℕ) (j : List ℕ) (at : ℕ) (out : List ℕ) → Reached f j at out out at 0
reached_none f j at out = record { text = []; wrote = wrote_none out 0; fits = omega arith; rest = refl; after = omega arith; few = omega arith }

-- one more record
module _ (stanza origin : List ℕ) {j : List ℕ} {at : ℕ} {before now : List ℕ} {m n : ℕ} (r : Reached (line_under stanza origin) j at before now m n) where
  pub reached_next : {e : ℕ} → NextLine j m e → 131074 ≤ length now - n → (after : List ℕ) (k : ℕ) → Wrote now after n k (line_under stanza origin (slice m e j))
      → Reached (line_under stanza origin) j at before after (e + 1) k
  reached_next {e} l h after k w =
      let line = line_under stanza origin (slice m e j) in
      let most : length line ≤ 131074 = record_most (record { stanza = stanza; origin = origin; records = [] }) (slice m e j) in
      record {
        text = r.text ++ line;
        wrote = wrote_append r.wrote w;
        fits = omega (arith, w.count, wrote_length r.wrote, r.fits);
        rest = append_assoc r.text line (flat_map (line_under stanza origin) (lines_at j (e + 1))) ∙ ap (λ t. r.text ++ t) (sym (next_written (line_under stanza origin) j m e l)) ∙ r.rest;
        after = omega (arith, r.after, l.after);
        few = omega (arith, w.count, r.few, r.after, l.after);
      }

-- the end of a turn of a job that keeps the form: no record is left, or no room for the longest line
module _ (j : List ℕ) (b : Job) {at : ℕ} {before now : List ℕ} {m n : ℕ} (r : Reached (line_under (slice b.places.from b.places.to j) (take b.places.origin b.origin)) j at before now m n) where
  pub turn_last : length j ≤ m → Turns j (Some b) at before now (record { taken = n; rest = None })
  turn_last h = record {
    text = r.text;
    wrote = r.wrote;
    fits = r.fits;
    rest = ap (λ t. r.text ++ t) (sym (none_written _ j m h)) ∙ r.rest;
    further = λ k e. cc;
  }

  pub turn_full : m < length j → 131074 ≤ length before → length now - n < 131074 → Turns j (Some b) at before now (record { taken = n; rest = Some m })
  turn_full h k f = record {
    text = r.text;
    wrote = r.wrote;
    fits = r.fits;
    rest = r.rest;
    further = λ i e. let q : m ≡ i = cc in rw (← q) (omega (arith, r.after, r.few, wrote_length r.wrote), h);
  }

-- `bad job`
pub turn_bad : (j : List ℕ) (at : ℕ) (before after : List ℕ) (n : ℕ) → Wrote before after 0 n (written None) → 131074 ≤ length before
    → Turns j None at before after (record { taken = n; rest = None })
turn_bad j at before after n w h = record { text = written None; wrote = w; fits = omega (arith, w.count); rest = refl; further = λ k e. cc }

-- a turn keeps the buffer's length, and each but the last goes on to a later record
pub turn_kept : {j : List ℕ} {b : Option Job} {at : ℕ} {before after : List ℕ} {r : Turn} → Turns j b at before after r → length after ≡ length before
turn_kept t = wrote_length t.wrote

abbrev pub turns_left : List ℕ → Option ℕ → ℕ
turns_left j None = 0
turns_left j (Some at) = suc (length j - at)

pub turn_less : {j : List ℕ} {b : Option Job} {at : ℕ} {before after : List ℕ} {r : Turn} → Turns j b at before after r → turns_left j r.rest < turns_left j (Some at)
turn_less {j} {b} {at} {before} {after} {r} t = by r.rest t.further
  where
    by : (o : Option ℕ) → ((m : ℕ) → o ≡ Some m → (at < m) × (m < length j)) → turns_left j o < suc (length j - at)
    by None f = omega arith
    by (Some m) f = omega (arith, f m refl)

-- What all turns write, one after another.
pub left_first : (j : List ℕ) (b : Option Job) → Begins j b → left_at j b (first_at b) ≡ job j
left_first j None h = sym (bad_written j h)
left_first j (Some b) h = sym (good_written j b.origin b.places h.form)

turn_text : {j : List ℕ} {b : Option Job} {at : ℕ} {before after : List ℕ} {r : Turn} (t : Turns j b at before after r) → take r.taken after ≡ t.text
turn_text {before = before} {r = r} t =
    let z : r.taken ≡ length t.text = omega (arith, t.wrote.count) in
    rw (t.wrote.octets, sets-eq t.text before 0 (omega (arith, t.fits, z))) (take_at t.text (drop (0 + length t.text) before) r.taken (sym z))

turns_left_lem : {j : List ℕ} {b : Option Job} {at : ℕ} {ws : List (List ℕ)} → AllTurns j b at ws → flat ws ≡ left_at j b at
turns_left_lem (last {r = r} t f) = ap (λ x. x ++ []) (turn_text t) ∙ rw f at t.rest
turns_left_lem {j} {b} (before_others {m = m} {r = r} t f os) = let q : t.text ++ left_at j b m ≡ _ = rw f at t.rest in rw (turn_text t, turns_left_lem os) q

pub turns_job : TurnsJob
turns_job j b h ws os = turns_left_lem os ∙ left_first j b h
