-- The verdict on a catalogue, entry by entry: each good entry is one more name, and the first bad one stops it.
use Prim.Native.Nat.{ℕ, zero, suc, ◌+◌, ◌≤◌, ◌<◌, min}
use mathlib.Core.Path.{◌≡◌, refl, sym, ap, ◌∙◌}
use mathlib.Core.Bool.{Bool, true, false, not, cond, ◌&&◌, ◌||◌}
use mathlib.Core.List.{List, [], ◌∷◌, ◌++◌}
use Rattle.std.specs.Prelude.{Option, None}
use native.Mathlib.Omega.{arith}
use native.Mathlib.Numerals.{add-one}
use lib.ListN.{length, take, drop, get_or, length-take}
use lib.Seq.{take_all}
use lib.Dec.{leb, ltb}
use borrow.Author.Tests.{lt-ltb, le-ltb, ltb-true, ltb-false}
use Rattle.format.specs.Lists.{◌>>=◌, provided, any_of}
use Rattle.format.specs.Octets.{same_word}
use Rattle.format.specs.Catalogue.{TypeName, good_alone, clashes, if_good, entry_after, Catalogued, bad_entry, known, after_entry, catalogued_from, catalogued}
use Rattle.format.proofs.Lists.{drop_next, drop_none}
use Rattle.catalogue.specs.Entries.{entry_at, entries_at, spelled_at, names_of, Listed}
use Rattle.catalogue_judge.specs.Judging.{stopped_at, type_at, bad_after, met_before, Front, Settled}
use Rattle.catalogue_judge.proofs.Marks.{take_next}

-- the names of entries
names_count : (names ws : List ℕ) → length (names_of names ws) ≡ length ws
names_count names [] = refl
names_count names (w ∷ ws) = ap suc (names_count names ws)

names_snoc : (names vs : List ℕ) (w : ℕ) → names_of names (vs ++ w ∷ []) ≡ names_of names vs ++ type_at names w ∷ []
names_snoc names [] w = refl
names_snoc names (v ∷ vs) w = ap (λ ms. type_at names v ∷ ms) (names_snoc names vs w)

-- a clash is a number that does not rise, or a name that is the same
clash_parts : (names vs : List ℕ) (n : TypeName)
    → any_of (λ m. clashes m n) (names_of names vs) ≡ any_of (λ v. leb n.type_no (entry_at v).type_no) vs || any_of (λ v. same_word (spelled_at names v) n.spelled) vs
clash_parts names [] n = refl
clash_parts names (v ∷ vs) n =
    ap (λ b. clashes (type_at names v) n || b) (clash_parts names vs n)
    ∙ by (leb n.type_no (entry_at v).type_no) (same_word (spelled_at names v) n.spelled) (any_of (λ v. leb n.type_no (entry_at v).type_no) vs) (any_of (λ v. same_word (spelled_at names v) n.spelled) vs)
  where
    by : (a b c d : Bool) → (a || b) || (c || d) ≡ (a || c) || (b || d)
    by true b c d = refl
    by false true true d = refl
    by false true false d = refl
    by false false c d = refl

-- the entry after k others is good where it is good in itself, rises, and has a name of its own
entry_after_lem : (names ws : List ℕ) (k : ℕ)
    → entry_after (names_of names (take k ws)) names (entry_at (get_or ws k 0)) ≡ provided (not (bad_after names ws k || met_before names ws k)) (type_at names (get_or ws k 0))
entry_after_lem names ws k =
    inside (leb ((entry_at w).start + (entry_at w).size) (length names)) (λ t. if_good (names_of names (take k ws)) (record { type_no = (entry_at w).type_no; spelled = t }))
    ∙ by (leb ((entry_at w).start + (entry_at w).size) (length names)) (good_alone (type_at names w)) (any_of (λ m. clashes m (type_at names w)) (names_of names (take k ws)))
    (any_of (λ v. leb (entry_at w).type_no (entry_at v).type_no) (take k ws)) (met_before names ws k) (clash_parts names (take k ws) (type_at names w))
  where
    w : ℕ
    w = get_or ws k 0

    inside : (a : Bool) (f : List ℕ → Option TypeName) → (provided a (spelled_at names w) >>= f) ≡ cond a (f (spelled_at names w)) None
    inside true f = refl
    inside false f = refl

    by : (a g c r m : Bool) → c ≡ r || m
        → cond a (provided (g && not c) (type_at names w)) None ≡ provided (not ((not (a && g) || r) || m)) (type_at names w)
    by true true c true m e = rw e
    by true true c false true e = rw e
    by true true c false false e = rw e
    by true false c r m e = refl
    by false g c r m e = refl

-- the verdict on all entries from entry k on
abbrev stage : List ℕ → List ℕ → ℕ → Catalogued
stage names ws k = catalogued_from (names_of names (take k ws)) names (entries_at (drop k ws))

module _ (names ws : List ℕ) (k : ℕ) where
  count : k ≤ length ws → length (names_of names (take k ws)) ≡ k
  count l = names_count names (take k ws) ∙ length-take k ws ∙ omega arith

  -- one step: the entry after k others, and what follows
  step : k < length ws → stage names ws k
      ≡ after_entry (cond (ltb k 512) (provided (not (bad_after names ws k || met_before names ws k)) (type_at names (get_or ws k 0))) None) (suc k)
      (λ n. catalogued_from (names_of names (take k ws) ++ n ∷ []) names (entries_at (drop (k + 1) ws)))
  unfolding catalogued_from
  step l =
      ap (λ es. catalogued_from (names_of names (take k ws)) names (entries_at es)) (drop_next ws k l)
      ∙ ap (λ i. after_entry (cond (ltb i 512) (entry_after (names_of names (take k ws)) names (entry_at (get_or ws k 0))) None) (suc i)
      (λ n. catalogued_from (names_of names (take k ws) ++ n ∷ []) names (entries_at (drop (k + 1) ws)))) (count (omega arith))
      ∙ ap (λ o. after_entry (cond (ltb k 512) o None) (suc k) (λ n. catalogued_from (names_of names (take k ws) ++ n ∷ []) names (entries_at (drop (k + 1) ws)))) (entry_after_lem names ws k)

  stage_on : k < length ws → k < 512 → bad_after names ws k ≡ false → met_before names ws k ≡ false → stage names ws k ≡ stage names ws (k + 1)
  stage_on l m a b =
      step l ∙ rw (lt-ltb k 512 m, a, b)
      (ap (λ ms. catalogued_from ms names (entries_at (drop (k + 1) ws))) (sym (names_snoc names (take k ws) (get_or ws k 0)) ∙ ap (names_of names) (sym (take_next ws k l))))

  stage_bad : k < length ws → bad_after names ws k || met_before names ws k ≡ true → stage names ws k ≡ bad_entry (suc k)
  stage_bad l e = step l ∙ rw e (by (ltb k 512))
    where
      by : (b : Bool) → after_entry (cond b None None) (suc k) (λ n. catalogued_from (names_of names (take k ws) ++ n ∷ []) names (entries_at (drop (k + 1) ws))) ≡ bad_entry (suc k)
      by true = refl
      by false = refl

  stage_many : k < length ws → 512 ≤ k → stage names ws k ≡ bad_entry (suc k)
  stage_many l m = step l ∙ rw (le-ltb k 512 m)

  stage_end : length ws ≤ k → stage names ws k ≡ known (names_of names ws)
  unfolding catalogued_from
  stage_end l = rw (drop_none ws k l, take_all k ws l)

-- all entries before r are good
stage_all : (names ws : List ℕ) (r : ℕ) → r ≤ length ws → r ≤ 512 → ((k : ℕ) → k < r → bad_after names ws k ≡ false) → ((k : ℕ) → k < r → met_before names ws k ≡ false)
    → stage names ws 0 ≡ stage names ws r
stage_all names ws zero l m a b = refl
stage_all names ws (suc r) l m a b =
    stage_all names ws r (omega arith) (omega arith) (λ k o. a k (omega arith)) (λ k o. b k (omega arith))
    ∙ stage_on names ws r (omega arith) (omega arith) (a r (omega arith)) (b r (omega arith)) ∙ ap (stage names ws) (add-one r)

-- what is settled of m entries, where they are n
pub Settled-count : (names ws : List ℕ) (m n r : ℕ) → m ≡ n → Settled names ws m r → Settled names ws n r
Settled-count names ws m n r e s = rw (← e) s

-- what the two passes over the entries say together
module _ (names ws hashes : List ℕ) (n r : ℕ) (f : Front names ws hashes (min (length ws) 512) n) (s : Settled names ws n r) where
  pub few_good : r ≤ 512
  few_good = omega (arith, f.within, s.within)

  inside : r ≤ length ws
  inside = omega (arith, f.within, s.within)

  pub stops : catalogued names (entries_at ws) ≡ stopped_at r names ws
  stops = stage_all names ws r inside few_good (λ k o. f.good k (omega (arith, s.within))) s.fresh ∙ by (ltb r (length ws)) refl
    where
      at : r < length ws → (b : Bool) → ltb r n ≡ b → stage names ws r ≡ bad_entry (suc r)
      at l true e = stage_bad names ws r l (later (bad_after names ws r) (met_before names ws r) (s.met (ltb-true r n e)))
        where
          later : (x y : Bool) → y ≡ true → x || y ≡ true
          later true y e = refl
          later false y e = e
      at l false e = last (ltb n 512) refl
        where
          q : r ≡ n
          q = let x : n ≤ r = ltb-false r n e in let y : r ≤ n = s.within in omega arith

          last : (c : Bool) → ltb n 512 ≡ c → stage names ws r ≡ bad_entry (suc r)
          last true g =
              let m : n < 512 = ltb-true n 512 g in
              let o : n < length ws = rw q at l in
              let bad : bad_after names ws r ≡ true = ap (bad_after names ws) q ∙ f.bad (omega arith) in
              stage_bad names ws r l (rw bad)
          last false g = let m : 512 ≤ n = ltb-false n 512 g in stage_many names ws r l (rw q m)

      by : (b : Bool) → ltb r (length ws) ≡ b → stage names ws r ≡ cond b (bad_entry (suc r)) (known (names_of names ws))
      by true e = at (ltb-true r (length ws) e) (ltb r n) refl
      by false e = stage_end names ws r (ltb-false r (length ws) e)

-- the answer
pub none_bad : (names ws : List ℕ) → length ws ≡ 0 → Listed names ws
unfolding catalogued_from
none_bad names [] e = refl
none_bad names (w ∷ ws) e = absurd (omega arith)

pub all_good : (names ws : List ℕ) (r : ℕ) → length ws ≤ r → catalogued names (entries_at ws) ≡ stopped_at r names ws → Listed names ws
all_good names ws r l e = e ∙ rw (le-ltb r (length ws) l)
