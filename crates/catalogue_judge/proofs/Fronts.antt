-- The entries from the first on that are good in themselves and rise by number.
use Prim.Native.Nat.{ℕ, ◌+◌, ◌≤◌, ◌<◌}
use mathlib.Core.Path.{◌≡◌, refl, sym, ap, ◌∙◌}
use mathlib.Core.Bool.{Bool, true, false, not, cond, ◌&&◌, ◌||◌, or-true}
use mathlib.Core.List.{List}
use Rattle.std.specs.Prelude.{None, Some}
use native.Mathlib.Omega.{arith}
use lib.ListN.{length, take, get_or, set}
use lib.Seq.{get_or-set_same, get_or-set_other}
use lib.Dec.{leb, ltb}
use borrow.Author.Tests.{leb-true, leb-false, lt-ltb, le-ltb, ltb-true}
use Rattle.format.specs.Lists.{any_of, all_of}
use Rattle.format.specs.Octets.{name_octet}
use Rattle.format.specs.Grammar.{starts_with_letter, is_name}
use Rattle.format.specs.Catalogue.{is_type_number, good_alone}
use Rattle.format.proofs.Lists.{and_left, and_right}
use Rattle.catalogue.specs.Entries.{entry_at, spelled_at}
use Rattle.catalogue_judge.specs.Judging.{word_from, type_at, good_at, bad_after, Known, Hashed, Front}
use Rattle.catalogue_judge.proofs.Words.{word_named}
use Rattle.catalogue_judge.proofs.Entries.{number_at}
use Rattle.catalogue_judge.proofs.Marks.{any_next, each_next}

-- a good entry's name is made of the octets of names, and lies in the text
module _ (names : List ℕ) (w : ℕ) (g : good_at names w ≡ true) where
  good_named : all_of name_octet (spelled_at names w) ≡ true
  good_named =
      let a = and_right (leb ((entry_at w).start + (entry_at w).size) (length names)) (good_alone (type_at names w)) g in
      let b = and_left (leb (entry_at w).type_no 65535 && is_name (spelled_at names w)) (not (is_type_number (spelled_at names w))) a in
      let n = and_right (leb (entry_at w).type_no 65535) (is_name (spelled_at names w)) b in
      and_right (starts_with_letter (spelled_at names w)) (all_of name_octet (spelled_at names w))
      (and_left (starts_with_letter (spelled_at names w) && all_of name_octet (spelled_at names w)) (leb (length (spelled_at names w)) 63) n)

  good_inside : (entry_at w).start + (entry_at w).size ≤ length names
  good_inside = leb-true ((entry_at w).start + (entry_at w).size) (length names) (and_left (leb ((entry_at w).start + (entry_at w).size) (length names)) (good_alone (type_at names w)) g)

  good_low : (entry_at w).type_no ≤ 65535
  good_low =
      let a = and_right (leb ((entry_at w).start + (entry_at w).size) (length names)) (good_alone (type_at names w)) g in
      let b = and_left (leb (entry_at w).type_no 65535 && is_name (spelled_at names w)) (not (is_type_number (spelled_at names w))) a in
      leb-true (entry_at w).type_no 65535 (and_left (leb (entry_at w).type_no 65535) (is_name (spelled_at names w)) b)

-- what the number of an entry's name, if there is one, says of it
pub no_number : (names : List ℕ) (w : ℕ) → number_at names w ≡ None → good_at names w ≡ false
no_number names w e = by (good_at names w) refl e
  where
    by : (b : Bool) → good_at names w ≡ b → cond b (word_from 0 (spelled_at names w)) None ≡ None → b ≡ false
    by true g z = absurd (word_named 0 (spelled_at names w) (good_named names w g) z)
    by false g z = refl

-- an entry that is good in itself, with the number of its name
pub record Numbered (names : List ℕ) (w h : ℕ) : Type 0 where
  pub good : good_at names w ≡ true
  pub low : (entry_at w).type_no ≤ 65535
  pub known : Known names w h

pub a_number : (names : List ℕ) (w h : ℕ) → number_at names w ≡ Some h → Numbered names w h
a_number names w h e = by (good_at names w) refl e
  where
    by : (b : Bool) → good_at names w ≡ b → cond b (word_from 0 (spelled_at names w)) None ≡ Some h → Numbered names w h
    by true g z = record { good = g; low = good_low names w g; known = record { in_text = good_inside names w g; named = good_named names w g; number = z } }
    by false g z = let y : ◌≡◌ {A = ℕ} 0 1 = cc in absurd (omega arith)

-- the first i entries: good and rising, with numbers below `low` and no lower bound; the numbers of their names are stored
pub record Going (names ws hashes : List ℕ) (low i : ℕ) : Type 0 where
  pub good : (k : ℕ) → k < i → bad_after names ws k ≡ false
  pub reached : (m : ℕ) → any_of (λ v. leb m (entry_at v).type_no) (take i ws) ≡ ltb m low
  pub hashed : Hashed names ws hashes i

-- entry i is the first bad one, of the first n
pub stops_here : (names ws hashes : List ℕ) (n low i : ℕ) → Going names ws hashes low i → i < n → n ≤ length hashes → bad_after names ws i ≡ true → Front names ws hashes n i
stops_here names ws hashes n low i g l f b = record { within = omega arith; fits = omega arith; good = g.good; bad = λ o. b; hashed = g.hashed }

module _ (names ws hashes : List ℕ) (low i t : ℕ) (g : Going names ws hashes low i) (q : t ≡ (entry_at (get_or ws i 0)).type_no) where
  -- not above all earlier ones
  pub going_low : t < low → bad_after names ws i ≡ true
  going_low l = let z : (entry_at (get_or ws i 0)).type_no < low = omega arith in rw (g.reached (entry_at (get_or ws i 0)).type_no, lt-ltb (entry_at (get_or ws i 0)).type_no low z, or-true)

  pub going_bad : good_at names (get_or ws i 0) ≡ false → bad_after names ws i ≡ true
  going_bad e = rw e

  pub going_on : (h : ℕ) → i < length ws → i < length hashes → low ≤ t → Numbered names (get_or ws i 0) h → Going names ws (set hashes i h) (t + 1) (i + 1)
  going_on h l m a n = record {
    good = each_next (λ k. bad_after names ws k ≡ false) i g.good now_good;
    reached = λ x. any_next (λ v. leb x (entry_at v).type_no) ws i l ∙ ap (λ b. b || leb x (entry_at (get_or ws i 0)).type_no) (g.reached x) ∙ up x (leb x (entry_at (get_or ws i 0)).type_no) refl;
    hashed = each_next (λ k. Known names (get_or ws k 0) (get_or (set hashes i h) k 0)) i (λ k o. rw (get_or-set_other hashes i k h 0 (λ e. absurd (omega arith))) (g.hashed k o)) (rw (get_or-set_same hashes i h 0 m) n.known);
  }
    where
      now_good : bad_after names ws i ≡ false
      now_good = let z : low ≤ (entry_at (get_or ws i 0)).type_no = omega arith in rw (n.good, g.reached (entry_at (get_or ws i 0)).type_no) (le-ltb (entry_at (get_or ws i 0)).type_no low z)

      up : (x : ℕ) (b : Bool) → leb x (entry_at (get_or ws i 0)).type_no ≡ b → ltb x low || b ≡ ltb x (t + 1)
      up x true e = rw (or-true) (sym (lt-ltb x (t + 1) (omega (arith, leb-true x (entry_at (get_or ws i 0)).type_no e))))
      up x false e = by (ltb x low) refl
        where
          by : (c : Bool) → ltb x low ≡ c → c || false ≡ ltb x (t + 1)
          by true f = sym (lt-ltb x (t + 1) (omega (arith, ltb-true x low f)))
          by false f = sym (le-ltb x (t + 1) (omega (arith, leb-false x (entry_at (get_or ws i 0)).type_no e)))
