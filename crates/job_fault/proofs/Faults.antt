-- Laws of the first fault, section by section.
use Prim.Native.Nat.{ℕ, zero, suc, ◌+◌, ◌-◌, ◌≤◌, ◌<◌}
use mathlib.Core.Path.{◌≡◌, refl, sym, ◌∙◌}
use mathlib.Core.Bool.{Bool, true, false}
use mathlib.Core.List.{List, [], ◌∷◌}
use Rattle.std.specs.Prelude.{Option, None, Some}
use native.Mathlib.Omega.{arith}
use lib.Dec.{eqb}
use lib.ListN.{length, take, drop, length-drop}
use lib.Seq.{slice, length-take-le}
use Rattle.format.specs.Lists.{cons_first, parting}
use Rattle.format.specs.Octets.{split_on}
use Rattle.format.specs.Lines.{without_empty_last}
use Rattle.format.specs.Job.{Section, origin_of}
use Rattle.octets.proofs.Slices.{lent}
use Rattle.job_form.specs.declared.lines.Section.{Section as Cut}
use Rattle.job_form.specs.Lines.{lines_at, NextLine, Sections}
use Rattle.job_form.proofs.Places.{line_some}
use Rattle.job_form.proofs.Forms.{null_none}
use Rattle.job_fault.specs.Fault.{at_line, name_reason, in_section, records_fault, name_fault, origin_fault}
use Rattle.job_fault.specs.declared.reason.Reason.{Reason}
use Rattle.job_fault.specs.declared.reason.Reason.TheVariants.{NotOneLine, LineAfter}
use Rattle.job_fault.specs.declared.fault.Fault.{Fault}

-- there are no more lines than octets
first_adds : (x : ℕ) (ts : List (List ℕ)) → length (cons_first x ts) ≡ length ts
first_adds x [] = refl
first_adds x (t ∷ ts) = refl

parts_few : (xs : List ℕ) → length (split_on 10 xs) ≤ length xs + 1
parts_few [] = omega arith
parts_few (x ∷ xs) = by (eqb x 10) (parts_few xs)
  where
    by : (b : Bool) → length (split_on 10 xs) ≤ length xs + 1 → length (parting b x (split_on 10 xs)) ≤ suc (length xs) + 1
    by true h = omega arith
    by false h = omega (arith, first_adds x (split_on 10 xs))

lines_fewer : (ts : List (List ℕ)) → length (without_empty_last ts) ≤ length ts
lines_fewer [] = omega arith
lines_fewer ([] ∷ []) = omega arith
lines_fewer ((x ∷ t) ∷ []) = omega arith
lines_fewer ([] ∷ u ∷ ts) = omega (arith, lines_fewer (u ∷ ts))
lines_fewer ((x ∷ t) ∷ u ∷ ts) = omega (arith, lines_fewer (u ∷ ts))

lines_few : (j : List ℕ) (at : ℕ) → length (lines_at j at) ≤ length j + 1
lines_few j at = omega (arith, lines_fewer (split_on 10 (drop at j)), parts_few (drop at j), length-drop at j)

-- the origin's section
not_name : (k n : ℕ) (ls : List (List ℕ)) (later : Option Fault) → n ≤ length ls → (n ≡ 1 → ⊥) → name_fault k (take n ls) later ≡ at_line k NotOneLine
not_name k zero ls later h d = refl
not_name k (suc zero) ls later h d = absurd (d refl)
not_name k (suc (suc n)) [] later h d = absurd (omega arith)
not_name k (suc (suc n)) (t ∷ []) later h d = absurd (omega arith)
not_name k (suc (suc n)) (t ∷ u ∷ ls) later h d = refl

-- a section that is found
module _ (j : List ℕ) (at k : ℕ) (s : Cut) (cut : Sections j at (Some s)) where
  in_cut : (f : Section → Option Fault) → in_section k (lines_at j at) f ≡ f (record { body = take s.lines (lines_at j s.from); later = lines_at j s.to })
  in_cut f = rw cut.0

  pub count_small : s.lines ≤ length j + 1
  count_small = omega (arith, cut.1.enough, lines_few j s.from)

  body_count : length (take s.lines (lines_at j s.from)) ≡ s.lines
  body_count = length-take-le s.lines (lines_at j s.from) cut.1.enough

  -- the records
  pub line_after : s.to < length j → at_line (k + s.lines + 1) LineAfter ≡ records_fault k (lines_at j at)
  line_after g = sym (in_cut _ ∙ rw (null_none (lines_at j s.to) (line_some j s.to g), body_count))

  -- the origin
  pub not_one : (s.lines ≡ 1 → ⊥) → at_line k NotOneLine ≡ origin_fault k (lines_at j at)
  not_one d = sym (in_cut _ ∙ not_name k s.lines (lines_at j s.from) (records_fault (k + 2) (lines_at j s.to)) cut.1.enough d)

  pub bad_name : s.lines ≡ 1 → origin_of (take s.lines (lines_at j s.from)) ≡ None → (e : ℕ) → NextLine j s.from e → (x : Reason) → x ≡ name_reason (take (e - s.from) (drop s.from j))
      → at_line (k + 1) x ≡ origin_fault k (lines_at j at)
  bad_name d w e l x q =
      let one : take s.lines (lines_at j s.from) ≡ slice s.from e j ∷ [] = rw (d, l.lines) in
      let bad : origin_of (slice s.from e j ∷ []) ≡ None = rw one at w in
      sym (in_cut _ ∙ rw (one, bad, q, lent j s.from e l.after))
