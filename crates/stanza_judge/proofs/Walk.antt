-- The judge's walk over the lines of a file and over counted strings: one step for both. A string begins after its count.
use Prim.Native.Nat.{ℕ, ◌+◌, ◌-◌, ◌≤◌, ◌<◌}
use mathlib.Core.Path.{◌≡◌, refl, sym, ap, ◌∙◌}
use mathlib.Core.Bool.{Bool, true, false, true≢false}
use mathlib.Core.List.{List, [], ◌∷◌, ◌++◌}
use native.Mathlib.Omega.{arith}
use lib.ListN.{length, get_or, drop, length-append, length-drop}
use lib.Seq.{slice, drop-drop, take-append_seam, drop-append_seam}
use Rattle.format.specs.Lists.{flat_map}
use Rattle.format.specs.Text.{pieces, with_count}
use Rattle.format.specs.Lines.{placed}
use Rattle.format.specs.Judge.{Progress, at_end, judged_from}
use Rattle.format.proofs.Lists.{drop_next}
use Rattle.format.proofs.Text.{all_pieces}
use Rattle.octets.specs.Octets.{in_class, part_in}
use Rattle.octets.specs.declared.Class.TheVariants.{NotNewline}
use Rattle.octets.proofs.Slices.{lent, front_within}
use Rattle.octets.proofs.Lines.{next_line, no_line}
use Rattle.stanza_judge.specs.Stanza.{lines_in, end_in, Whole}

-- the line at a place, and what is left after it
pub record NextLine (in_file : Bool) (s : List ℕ) (at : ℕ) : Type 0 where
  pub first : lines_in in_file s at ≡ part_in s at (end_in in_file s at) ∷ lines_in in_file s (end_in in_file s at + 1)
  pub from : at ≤ end_in in_file s at
  pub within : end_in in_file s at ≤ length s
  pub rest : in_file ≡ false → Whole s (end_in in_file s at + 1)

-- a string that is left: its octets t, and the strings ts after it
module _ (s : List ℕ) (at : ℕ) (n : 1 ≤ at) (l : at ≤ length s) (t : List ℕ) (ts : List (List ℕ)) (e : drop (at - 1) s ≡ with_count t ++ flat_map with_count ts) where
  there : drop (at - 1) s ≡ get_or s (at - 1) 0 ∷ drop at s
  there = let z : at - 1 + 1 ≡ at = omega arith in drop_next s (at - 1) (omega arith) ∙ rw z

  count_is : get_or s (at - 1) 0 ≡ length t
  count_is = let z : get_or s (at - 1) 0 ∷ drop at s ≡ length t ∷ (t ++ flat_map with_count ts) = sym there ∙ e in cc

  others : drop at s ≡ t ++ flat_map with_count ts
  others = let z : get_or s (at - 1) 0 ∷ drop at s ≡ length t ∷ (t ++ flat_map with_count ts) = sym there ∙ e in cc

  end_is : end_in false s at ≡ at + length t
  end_is = ap (λ k. at + k) count_is

  part_is : slice at (at + length t) s ≡ t
  part_is = let z : at + length t - at ≡ length t = omega arith in sym (lent s at (at + length t) (omega arith)) ∙ rw (z, others) (take-append_seam t (flat_map with_count ts))

  rest_is : drop (at + length t) s ≡ flat_map with_count ts
  rest_is = sym (drop-drop (length t) at s) ∙ rw others (drop-append_seam t (flat_map with_count ts))

  next_string_by : NextLine false s at
  next_string_by = record {
    first = firsts;
    from = omega arith;
    within = rw end_is (omega (arith, ap length others, length-append t (flat_map with_count ts), length-drop at s));
    rest = λ q. record { after_count = omega arith; strings = ts; counted = counts };
  }
    where
      back : (k : ℕ) → k + 1 - 1 ≡ k
      back k = omega arith

      counts : drop (end_in false s at + 1 - 1) s ≡ flat_map with_count ts
      counts = rw (back (end_in false s at), end_is) rest_is

      firsts : placed at (pieces (drop (at - 1) s)) ≡ part_in s at (end_in false s at) ∷ placed (end_in false s at + 1) (pieces (drop (end_in false s at + 1 - 1) s))
      firsts = rw (counts, e, all_pieces (t ∷ ts), all_pieces ts, end_is, part_is)

next_string : (s : List ℕ) (at : ℕ) → Whole s at → at < length s → NextLine false s at
next_string s at w l = by w.strings w.counted
  where
    by : (ss : List (List ℕ)) → drop (at - 1) s ≡ flat_map with_count ss → NextLine false s at
    by [] e = absurd (omega (arith, ap length e, length-drop (at - 1) s, w.after_count))
    by (t ∷ ts) e = next_string_by s at w.after_count (omega arith) t ts e

-- At the end nothing is left, or one string without octets, which is ignored.
no_string : (s : List ℕ) (at line : ℕ) (p : Progress) → Whole s at → length s ≤ at → judged_from false line p (lines_in false s at) ≡ at_end p
unfolding judged_from
no_string s at line p w l = by w.strings w.counted
  where
    none_more : (u : List ℕ) (us : List (List ℕ)) → length (with_count u ++ flat_map with_count us) ≤ 1 → (u ≡ []) × (us ≡ [])
    none_more [] [] h = (refl, refl)
    none_more [] (v ∷ us) h = absurd (omega arith)
    none_more (x ∷ u) us h = absurd (omega arith)

    by : (ss : List (List ℕ)) → drop (at - 1) s ≡ flat_map with_count ss → judged_from false line p (placed at (pieces (drop (at - 1) s))) ≡ at_end p
    by [] e = rw e
    by (t ∷ ts) e =
        let (a, b) = none_more t ts (omega (arith, ap length e, length-drop (at - 1) s, w.after_count)) in
        rw (e, a, b)

-- in either form: the next line, and none
pub next_of : (in_file : Bool) (s : List ℕ) (at : ℕ) → (in_file ≡ false → Whole s at) → at < length s → NextLine in_file s at
next_of true s at w l = record {
  first = next_line s at l;
  from = omega arith;
  within = front_within (in_class NotNewline) s at (length s) (omega arith) (omega arith);
  rest = λ q. absurd (true≢false q);
}
next_of false s at w l = next_string s at (w refl) l

pub none_of : (in_file : Bool) (s : List ℕ) (at line : ℕ) (p : Progress) → (in_file ≡ false → Whole s at) → length s ≤ at → judged_from in_file line p (lines_in in_file s at) ≡ at_end p
unfolding judged_from
none_of true s at line p w l = rw (no_line s at l)
none_of false s at line p w l = no_string s at line p (w refl) l
