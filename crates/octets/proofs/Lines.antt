-- The lines of a list from a place on: the next one ends before the next LF.
use Prim.Native.Nat.{ℕ, ◌+◌, ◌≤◌, ◌<◌}
use mathlib.Core.Path.{◌≡◌, refl, sym, ap, ap₂, ◌∙◌}
use mathlib.Core.Bool.{Bool, true, false, not}
use mathlib.Core.List.{List, [], ◌∷◌}
use native.Mathlib.Omega.{arith}
use lib.ListN.{length, drop, length-drop, drop_of_length-le}
use lib.Seq.{slice, drop-drop}
use lib.Dec.{eqb}
use Rattle.format.specs.Lists.{Spanned, spanning, span, cons_first, parting}
use Rattle.format.specs.Octets.{split_on}
use Rattle.format.specs.Field.{Part}
use Rattle.format.specs.Lines.{placed, without_empty_last, lines_of}
use Rattle.octets.specs.Octets.{line_end, part_in}
use Rattle.format.proofs.Lists.{to_end}
use Rattle.octets.proofs.Slices.{span_rest, span_front, take_drop}

-- the parts after the first separator
abbrev pub cut_rest : ℕ → List ℕ → List (List ℕ)
cut_rest c [] = []
cut_rest c (x ∷ xs) = split_on c xs

pub cut_first : (c : ℕ) (xs : List ℕ) → split_on c xs ≡ (span (λ x. not (eqb x c)) xs).front ∷ cut_rest c (span (λ x. not (eqb x c)) xs).rest
cut_first c [] = refl
cut_first c (x ∷ xs) = by (eqb x c) (cut_first c xs)
  where
    s : Spanned
    s = span (λ x. not (eqb x c)) xs

    by : (b : Bool) → split_on c xs ≡ s.front ∷ cut_rest c s.rest → parting b x (split_on c xs) ≡ (spanning (not b) x xs s).front ∷ cut_rest c (spanning (not b) x xs s).rest
    by true e = refl
    by false e = ap (cons_first x) e

some_line : (t : List ℕ) → 1 ≤ length t → without_empty_last (t ∷ []) ≡ t ∷ []
some_line [] h = absurd (omega arith)
some_line (x ∷ t) h = refl

-- the first line, and the lines after its LF
lines_first : (xs : List ℕ) → 1 ≤ length xs → lines_of xs ≡ (span (λ x. not (eqb x 10)) xs).front ∷ lines_of (drop 1 (span (λ x. not (eqb x 10)) xs).rest)
lines_first xs h = ap without_empty_last (cut_first 10 xs) ∙ by s.front s.rest (span_rest f xs)
  where
    f : ℕ → Bool
    f x = not (eqb x 10)

    s : Spanned
    s = span (λ x. not (eqb x 10)) xs

    more : (t u : List ℕ) (ts : List (List ℕ)) → without_empty_last (t ∷ u ∷ ts) ≡ t ∷ without_empty_last (u ∷ ts)
    more [] u ts = refl
    more (x ∷ t) u ts = refl

    on : (t ys : List ℕ) (ts : List (List ℕ)) → split_on 10 ys ≡ ts → without_empty_last (t ∷ split_on 10 ys) ≡ t ∷ without_empty_last (split_on 10 ys)
    on t ys ts e = ap (λ l. without_empty_last (t ∷ l)) (cut_first 10 ys) ∙ more t (span (λ x. not (eqb x 10)) ys).front (cut_rest 10 (span (λ x. not (eqb x 10)) ys).rest) ∙ ap (λ l. t ∷ without_empty_last l) (sym (cut_first 10 ys))

    by : (t r : List ℕ) → drop (length s.front) xs ≡ r → without_empty_last (s.front ∷ cut_rest 10 r) ≡ s.front ∷ lines_of (drop 1 r)
    by t [] e = some_line s.front (omega (arith, ap length e, length-drop (length s.front) xs))
    by t (x ∷ r) e = on s.front r (split_on 10 r) refl

-- the lines from a place on
abbrev pub lines_from : List ℕ → ℕ → List Part
lines_from s at = placed at (lines_of (drop at s))

pub next_line : (s : List ℕ) (at : ℕ) → at < length s → lines_from s at ≡ part_in s at (line_end s at) ∷ lines_from s (line_end s at + 1)
next_line s at h = rw (to_end s at) (ap (placed at) (lines_first xs (omega (arith, length-drop at s))) ∙ ap₂ (λ t us. record { place = at; octets = t } ∷ placed (at + length f + 1) us) first_line (ap lines_of others))
  where
    xs : List ℕ
    xs = drop at s

    f : List ℕ
    f = (span (λ x. not (eqb x 10)) (drop at s)).front

    first_line : f ≡ slice at (at + length f) s
    first_line = sym (span_front (λ x. not (eqb x 10)) (drop at s)) ∙ take_drop (length f) at s

    same_place : at + (length f + 1) ≡ at + length f + 1
    same_place = omega arith

    others : drop 1 (span (λ x. not (eqb x 10)) (drop at s)).rest ≡ drop (at + length f + 1) s
    others = ap (drop 1) (sym (span_rest (λ x. not (eqb x 10)) (drop at s))) ∙ drop-drop 1 (length f) (drop at s) ∙ drop-drop (length f + 1) at s ∙ ap (λ n. drop n s) same_place

pub no_line : (s : List ℕ) (at : ℕ) → length s ≤ at → lines_from s at ≡ []
no_line s at h = rw (drop_of_length-le s h)
