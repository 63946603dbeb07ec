-- Laws of the lines of a job, by the place that was reached.
use Prim.Native.Nat.{ℕ, suc, ◌+◌, ◌-◌, ◌≤◌, ◌<◌}
use mathlib.Core.Path.{◌≡◌, refl, sym, ap, ap₂, ◌∙◌}
use mathlib.Core.List.{List, [], ◌∷◌, ◌++◌, map}
use Rattle.std.specs.Prelude.{Option, None, Some}
use native.Mathlib.Omega.{arith}
use native.Mathlib.Decide.{dec_le}
use lib.ListN.{length, take, drop, get_or}
use lib.Seq.{slice}
use borrow.Author.Tests.{eqb-true, not-false}
use Rattle.format.specs.Field.{Part}
use Rattle.format.specs.Lines.{placed}
use Rattle.format.specs.Job.{ended}
use Rattle.octets.specs.Octets.{in_class, line_end}
use Rattle.octets.specs.declared.Class.TheVariants.{NotNewline}
use Rattle.octets.proofs.Slices.{next, none as no-octet, front_within, front_rest, stopped}
use Rattle.octets.proofs.Lines.{next_line, no_line}
use Rattle.octets.proofs.Blocks.{slice_append}
use Rattle.job_form.specs.Lines.{lines_at, NextLine, LinesTo, Skips}

-- the texts of parts
abbrev texts : List Part → List (List ℕ)
texts ps = map (λ p. p.octets) ps

texts_placed : (at : ℕ) (ls : List (List ℕ)) → texts (placed at ls) ≡ ls
texts_placed at [] = refl
texts_placed at (t ∷ ts) = ap (λ us. t ∷ us) (texts_placed (at + length t + 1) ts)

line_first : (j : List ℕ) (at : ℕ) → at < length j → lines_at j at ≡ slice at (line_end j at) j ∷ lines_at j (line_end j at + 1)
line_first j at h = sym (texts_placed at (lines_at j at)) ∙ ap texts (next_line j at h) ∙ ap (λ us. slice at (line_end j at) j ∷ us) (texts_placed (line_end j at + 1) (lines_at j (line_end j at + 1)))

pub no_lines : (j : List ℕ) (at : ℕ) → length j ≤ at → lines_at j at ≡ []
no_lines j at h = sym (texts_placed at (lines_at j at)) ∙ ap texts (no_line j at h)

pub some_lines : (j : List ℕ) (at : ℕ) → 1 ≤ length (lines_at j at) → at < length j
some_lines j at h = by (dec_le (length j) at)
  where
    by : Dec (length j ≤ at) → at < length j
    by (yes l) = absurd (omega (arith, ap length (no_lines j at l)))
    by (no l) = omega arith

pub line_some : (j : List ℕ) (at : ℕ) → at < length j → 1 ≤ length (lines_at j at)
line_some j at h = omega (arith, ap length (line_first j at h))

line_ends : (j : List ℕ) (at : ℕ) → line_end j at < length j → get_or j (line_end j at) 0 ≡ 10
line_ends j at h =
    eqb-true (get_or j (line_end j at) 0) 10 (not-false _
    (stopped (in_class NotNewline) (slice at (length j) j) (get_or j (line_end j at) 0) (slice (line_end j at + 1) (length j) j)
    (sym (front_rest (in_class NotNewline) j at (length j)) ∙ next j (line_end j at) (length j) h (omega arith))))

-- a line with its LF
with_newline : (j : List ℕ) (at e : ℕ) → at ≤ e → e < length j → get_or j e 0 ≡ 10 → slice at (e + 1) j ≡ slice at e j ++ 10 ∷ []
with_newline j at e h l q =
    slice_append j at e (e + 1) h (omega arith) (omega arith)
    ∙ ap (λ t. slice at e j ++ t) (next j e (e + 1) (omega arith) (omega arith) ∙ ap₂ (λ x t. x ∷ t) q (no-octet j (e + 1) (e + 1) (omega arith)))

pub ends_line : (j : List ℕ) (at e : ℕ) → at < length j → e ≡ line_end j at → NextLine j at e
ends_line j at e h q =
    let w = front_within (in_class NotNewline) j at (length j) (omega arith) (omega arith) in
    let a : at ≤ line_end j at = omega arith in
    rw q (record {
      lines = line_first j at h;
      text = λ l. with_newline j at (line_end j at) a l (line_ends j at l);
      after = a;
      within = w;
    })

-- Lines that are skipped one by one: the answer for the others is the answer for all.
module _ {j : List ℕ} {m e : ℕ} (l : NextLine j m e) where
  line_text_lem : (to : ℕ) (ts : List (List ℕ)) → e + 1 ≤ to → to ≤ length j → ended ts ≡ slice (e + 1) to j → ended (slice m e j ∷ ts) ≡ slice m to j
  line_text_lem to ts h w q =
      ap (λ t. (slice m e j ++ 10 ∷ []) ++ t) q ∙ ap (λ t. t ++ slice (e + 1) to j) (sym (l.text (omega arith)))
      ∙ sym (slice_append j m (e + 1) to (omega (arith, l.after)) h w)

  lines_on : (n to : ℕ) → LinesTo j (e + 1) n to → LinesTo j m (suc n) to
  lines_on n to s = record {
    enough = omega (arith, s.enough, ap length l.lines);
    later = ap (drop (suc n)) l.lines ∙ s.later;
    text = λ w. ap (λ ts. ended (take (suc n) ts)) l.lines ∙ line_text_lem to (take n (lines_at j (e + 1))) s.after w (s.text w);
    after = omega (arith, s.after, l.after);
    within = s.within;
  }

  skips_suc : (n : ℕ) (r : Option ℕ) → Skips j (e + 1) n r → Skips j m (suc n) r
  skips_suc n None h = omega (arith, ap length l.lines)
  skips_suc n (Some to) s = lines_on n to s

  pub skips_on : (n i : ℕ) (r : Option ℕ) → i < n → Skips j (e + 1) (n - (i + 1)) r → Skips j m (n - i) r
  skips_on n i r h s = let q : n - i ≡ suc (n - (i + 1)) = omega arith in rw q (skips_suc (n - (i + 1)) r s)

pub skips_none : (j : List ℕ) (at : ℕ) → at ≤ length j + 1 → Skips j at 0 (Some at)
skips_none j at h = record { enough = omega arith; later = refl; text = λ w. sym (no-octet j at at (omega arith)); after = omega arith; within = h }
