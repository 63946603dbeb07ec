-- Counted strings one after another, whether one is cut short, and the tag.
use Prim.Native.Nat.compare
use Prim.Native.Nat.{ℕ, zero, suc, ◌+◌, ◌-◌, ◌≤◌, ◌<◌}
use mathlib.Core.Path.{◌≡◌, refl, sym, ap, ◌∙◌}
use mathlib.Core.Bool.{true, false}
use mathlib.Core.List.{List, [], ◌∷◌}
use native.Mathlib.Omega.{arith}
use lib.ListN.{length, get_or, take, drop, length-drop, take-append-drop, drop_of_length-le}
use lib.Seq.{slice, drop-drop}
use Rattle.std.proofs.lemmas.List.{drop-take}
use lib.Seq.{length-take-le}
use borrow.Author.Tests.{eq-eqb, ne_eqb, le-leb, lt-leb}
use Rattle.format.specs.Lists.{flat_map, cons_first}
use Rattle.format.specs.Octets.{same_octets}
use Rattle.format.specs.Wire.{string_count, string_octet, Taken, short, bad, took, one_more, taken, takes_all}
use Rattle.format.specs.Field.{Part}
use Rattle.format.specs.Text.{pieces_from, pieces, with_count}
use Rattle.format.specs.Judge.{Judged, rejected}
use Rattle.format.specs.Stored.{whole_strings, tag, tagged, stored_lines, or_rejected, judged_stored}
use Rattle.format.proofs.Lists.{drop_next}
use Rattle.stanza_judge.specs.Stanza.{lines_in, Begins, begun}
use Rattle.stanza_judge.proofs.Walk.{NextLine, next_of}
use Rattle.stanza_stored.specs.declared.Fault.{Fault}
use Rattle.stanza_stored.specs.declared.Fault.TheVariants.{TooLong, Edition, Cut, NoTag}
use Rattle.stanza_stored.specs.Stored.{fault_number, AllWhole, CutShort}

-- all are taken, or all after the first octet
one_octet : (v : Taken) (x : ℕ) (xs : List ℕ) → takes_all (one_more v) (x ∷ xs) ≡ takes_all v xs
one_octet short x xs = refl
one_octet bad x xs = refl
one_octet (took n) x xs = rw (compare.suc-suc n (length xs))

-- the octets of a string
octets_whole : (n : ℕ) (r : List ℕ) → suc n ≤ length r → takes_all (taken (string_octet n) r) r ≡ whole_strings (drop (suc n) r)
unfolding taken
octets_whole n [] h = absurd (omega arith)
octets_whole zero (x ∷ r) h = one_octet (taken (string_count true) r) x r
octets_whole (suc n) (x ∷ r) h = one_octet (taken (string_octet n) r) x r ∙ octets_whole n r (omega arith)

octets_cut : (n : ℕ) (r : List ℕ) → length r ≤ n → takes_all (taken (string_octet n) r) r ≡ false
unfolding taken
octets_cut n [] h = refl
octets_cut zero (x ∷ r) h = absurd (omega arith)
octets_cut (suc n) (x ∷ r) h = one_octet (taken (string_octet n) r) x r ∙ octets_cut n r (omega arith)

-- a string after its count, and those after it
module _ (c : ℕ) (r : List ℕ) where
  string_whole : c ≤ length r → whole_strings (c ∷ r) ≡ whole_strings (drop c r)
  unfolding taken
  string_whole h = by c refl
    where
      by : (n : ℕ) → c ≡ n → whole_strings (c ∷ r) ≡ whole_strings (drop c r)
      by zero e = rw e (one_octet (taken (string_count true) r) 0 r)
      by (suc n) e = rw e (one_octet (taken (string_octet n) r) (suc n) r ∙ octets_whole n r (omega arith))

  string_cut : length r < c → whole_strings (c ∷ r) ≡ false
  unfolding taken
  string_cut h = by c refl
    where
      by : (n : ℕ) → c ≡ n → whole_strings (c ∷ r) ≡ false
      by zero e = absurd (omega arith)
      by (suc n) e = rw e (one_octet (taken (string_octet n) r) (suc n) r ∙ octets_cut n r (omega arith))

-- how many they are
first_kept : (x : ℕ) (ts : List (List ℕ)) → length (cons_first x ts) ≡ length ts
first_kept x [] = refl
first_kept x (t ∷ ts) = refl

one_more_lem : (n : ℕ) (xs : List ℕ) → n ≤ length xs → length (pieces_from n xs) ≡ suc (length (pieces (drop n xs)))
one_more_lem zero [] h = refl
one_more_lem zero (c ∷ xs) h = refl
one_more_lem (suc n) [] h = absurd (omega arith)
one_more_lem (suc n) (x ∷ xs) h = first_kept x (pieces_from n xs) ∙ one_more_lem n xs (omega arith)

one_only : (n : ℕ) (xs : List ℕ) → length xs < n → length (pieces_from n xs) ≡ 1
one_only n [] h = refl
one_only zero (c ∷ xs) h = absurd (omega arith)
one_only (suc n) (x ∷ xs) h = first_kept x (pieces_from n xs) ∙ one_only n xs (omega arith)

counted_first : (c : ℕ) (r : List ℕ) (ts : List (List ℕ)) → c ≤ length r → drop c r ≡ flat_map with_count ts → c ∷ r ≡ flat_map with_count (take c r ∷ ts)
counted_first c r ts h e = let l : length (take c r) ≡ c = length-take-le c r h in rw (l, ← e) (ap (λ t. c ∷ t) (sym (take-append-drop c r)))

-- the strings before i are whole, and the next is number n
pub record Passed (s : List ℕ) (i n : ℕ) : Type 0 where
  pub within : i ≤ length s
  pub from_one : 1 ≤ n
  pub counted : n ≤ i + 1
  pub whole : whole_strings (drop i s) ≡ whole_strings s
  pub many : n + length (pieces (drop i s)) ≡ length (pieces s) + 1
  pub strings : (ts : List (List ℕ)) → drop i s ≡ flat_map with_count ts → (ss : List (List ℕ)) × (s ≡ flat_map with_count ss)

pub none_passed : (s : List ℕ) → Passed s 0 1
none_passed s = record {
  within = omega arith;
  from_one = omega arith;
  counted = omega arith;
  whole = refl;
  many = omega arith;
  strings = λ ts e. (ts, e);
}

module _ {s : List ℕ} {i n : ℕ} (p : Passed s i n) where
  -- the next one
  module _ (h : i < length s) where
    there : drop i s ≡ get_or s i 0 ∷ drop (i + 1) s
    there = drop_next s i h

    left : length (drop (i + 1) s) ≡ length s - (i + 1)
    left = length-drop (i + 1) s

    pub passes : get_or s i 0 < length s - i → Passed s (i + 1 + get_or s i 0) (n + 1)
    passes k = record {
      within = omega arith;
      from_one = omega arith;
      counted = omega (arith, p.counted);
      whole = sym (ap whole_strings after) ∙ sym (string_whole (get_or s i 0) (drop (i + 1) s) fits) ∙ sym (ap whole_strings there) ∙ p.whole;
      many = omega (arith, p.many, ap (λ t. length (pieces t)) there, one_more_lem (get_or s i 0) (drop (i + 1) s) fits, ap (λ t. length (pieces t)) after);
      strings = λ ts e. p.strings (take (get_or s i 0) (drop (i + 1) s) ∷ ts) (there ∙ counted_first (get_or s i 0) (drop (i + 1) s) ts fits (after ∙ e));
    }
      where
        fits : get_or s i 0 ≤ length (drop (i + 1) s)
        fits = omega (arith, left)

        after : drop (get_or s i 0) (drop (i + 1) s) ≡ drop (i + 1 + get_or s i 0) s
        after = drop-drop (get_or s i 0) (i + 1) s

    pub is_cut : length s - i ≤ get_or s i 0 → CutShort s n
    is_cut k = record {
      cut = sym p.whole ∙ ap whole_strings there ∙ string_cut (get_or s i 0) (drop (i + 1) s) (omega (arith, left));
      last = omega (arith, p.many, ap (λ t. length (pieces t)) there, one_only (get_or s i 0) (drop (i + 1) s) (omega (arith, left)));
    }

  -- no more
  pub none_cut : length s ≤ i → AllWhole s
  unfolding taken
  none_cut h =
      let z : drop i s ≡ [] = drop_of_length-le s h in
      let (ss, e) = p.strings [] z in
      record { whole = sym p.whole ∙ ap whole_strings z; strings = record { after_count = omega arith; strings = ss; counted = e } }

-- what the tag and the lines after it say
abbrev after_strings : List Part → Judged
after_strings ls = or_rejected 14 1 (tagged ls) (stored_lines 2 (drop 1 ls))

-- before any line: the whole is too long, or the edition is another
pub stored_long : (edition : ℕ) (s : List ℕ) → 8192 < length s → rejected 1 0 ≡ judged_stored edition s
unfolding judged_stored
stored_long edition s h = rw (lt-leb (length s) 8192 h)

pub other_edition : (edition : ℕ) (s : List ℕ) → length s ≤ 8192 → (edition ≡ 13 → ⊥) → rejected 16 0 ≡ judged_stored edition s
unfolding judged_stored
other_edition edition s l h = rw (le-leb (length s) 8192 l, ne_eqb edition 13 h)

-- the first string, as it is lent
pub first_lent : (s : List ℕ) (k : ℕ) → take (1 + k - 1) (drop 1 s) ≡ slice 1 (1 + k) s
first_lent s k = let q : 1 + k - 1 ≡ k = omega arith in rw q (sym (drop-take 1 k s))

-- a fault's number is not 0
pub fault_some : (f : Fault) → 1 ≤ fault_number f
fault_some TooLong = omega arith
fault_some Edition = omega arith
fault_some (Cut k) = omega arith
fault_some NoTag = omega arith

-- the first string, and where the lines after it begin
module _ (s : List ℕ) (c : AllWhole s) (h : 2 ≤ length s) where
  first : NextLine false s 1
  first = next_of false s 1 (λ q. c.strings) (omega arith)

  pub tag_within : 1 + get_or s 0 0 ≤ length s
  tag_within = first.within

  pub lines_begin : length s ≤ 8192 → Begins false s (1 + get_or s 0 0 + 1) 1
  lines_begin l = record { short = l; within = omega (arith, first.within); counted = omega arith; whole = first.rest }

-- a string is cut short, or the tag is wrong or missing
module _ (edition : ℕ) (s : List ℕ) (l : length s ≤ 8192) (d : edition ≡ 13) where
  pub stored_cut : (r : ℕ) → CutShort s r → rejected 8 r ≡ judged_stored edition s
  unfolding judged_stored
  stored_cut r c = rw (le-leb (length s) 8192 l, eq-eqb edition 13 d, c.cut, c.last)

  stored_whole : AllWhole s → judged_stored edition s ≡ after_strings (lines_in false s 1)
  unfolding judged_stored
  stored_whole c = rw (le-leb (length s) 8192 l, eq-eqb edition 13 d, c.whole)

  pub stored_short : AllWhole s → length s < 2 → rejected 14 1 ≡ judged_stored edition s
  stored_short c h = sym (stored_whole c ∙ by s refl h)
    where
      by : (t : List ℕ) → s ≡ t → length s < 2 → after_strings (lines_in false s 1) ≡ rejected 14 1
      by [] q k = rw q
      by (x ∷ []) q k = rw q
      by (x ∷ y ∷ t) q k = absurd (omega (arith, ap length q))

  module _ (c : AllWhole s) (h : 2 ≤ length s) where
    stored_tag : judged_stored edition s ≡ or_rejected 14 1 (same_octets (slice 1 (1 + get_or s 0 0) s) tag) (stored_lines 2 (lines_in false s (1 + get_or s 0 0 + 1)))
    stored_tag = stored_whole c ∙ ap after_strings (first s c h).first

    pub not_tagged : false ≡ same_octets (slice 1 (1 + get_or s 0 0) s) tag → rejected 14 1 ≡ judged_stored edition s
    not_tagged q = sym (stored_tag ∙ rw (← q))

    pub is_tagged : true ≡ same_octets (slice 1 (1 + get_or s 0 0) s) tag → begun false s (1 + get_or s 0 0 + 1) 1 ≡ judged_stored edition s
    is_tagged q = sym (stored_tag ∙ rw (← q))
