-- Laws of the two searches: by number in halves, and by name.
use Prim.Native.Nat.{ℕ, ◌≤◌, ◌<◌}
use mathlib.Core.Path.{◌≡◌, refl, sym, subst}
use mathlib.Core.Bool.{Bool, true, false, cond}
use mathlib.Core.List.{List}
use Rattle.std.specs.Prelude.{None, Some, Result, Ok, Err}
use Rattle.std.proofs.Common.{Ordering, Less, Equal, Greater, MatchResult}
use Rattle.std.specs.Ordering.{nat_cmp, ordering_index, MatchOrdering}
use Rattle.std.specs.Result.{result_ok}
use Rattle.std.specs.Cmp.{ranks}
use Rattle.std.specs.List.Sorted.{IsBinarySearchResult, IsSearchInRange}
use Rattle.std.proofs.lemmas.List.Sums.{position_or_len_is, fails_before_first}
use Rattle.std.specs.List.{position_or_len}
use Rattle.std.proofs.lemmas.List.Quantifiers.{position-Some}
use Rattle.std.proofs.lemmas.List.Sorted.{IsNonDecreasingBy-from_default}
use native.Mathlib.Omega.{arith}
use lib.ListN.{length, drop, get_or, length-take}
use lib.Dec.{ltb, eqb}
use borrow.Author.Tests.{eq-eqb, ne_eqb, lt-ltb, le-ltb, ltb-true, ltb-false, tests}
use Rattle.format.specs.Rrtype.{type_text}
use Rattle.format.specs.Catalogue.{type_text_in}
use Rattle.catalogue.specs.Entries.{entry_at, spelled_at, names_of, Rising, Within, place_of}
use Rattle.catalogue.proofs.Laws.{type_at, text_found, text_none}

-- what std's search by halves says of what rises by a number
module _ {X : Type 0} (key : X → ℕ) (xs : List X) (d : X) (v : ℕ) (rising : (i j : ℕ) → i < j → j < length xs → key (get_or xs i d) < key (get_or xs j d)) where
  order : (k : ℕ) (o : Ordering) → nat_cmp (key (get_or xs k d)) v ≡ o → MatchOrdering o (key (get_or xs k d) < v) (key (get_or xs k d) ≡ v) (v < key (get_or xs k d))
  order k o e = subst (λ o. MatchOrdering o (key (get_or xs k d) < v) (key (get_or xs k d) ≡ v) (v < key (get_or xs k d))) e (ranks (key (get_or xs k d)) v)

  higher : (a b : ℕ) → a ≤ b → ordering_index (nat_cmp a v) ≤ ordering_index (nat_cmp b v)
  higher a b le = grind (arith, tests)

  rises : (i j : ℕ) → i ≤ j → j < length xs → key (get_or xs i d) ≤ key (get_or xs j d)
  rises i j a b = by (ltb i j) refl
    where
      by : (c : Bool) → ltb i j ≡ c → key (get_or xs i d) ≤ key (get_or xs j d)
      by true e = omega (arith, rising i j (ltb-true i j e) b)
      by false e = let q : i ≡ j = omega (arith, a, ltb-false i j e) in rw q (omega arith)

  pub searched : (r : Result ℕ ℕ) → IsSearchInRange r (length xs) → IsBinarySearchResult (λ x. nat_cmp (key x) v) xs r
      → MatchResult r (λ k. (k < length xs) × (key (get_or xs k d) ≡ v)) (λ _. (i : ℕ) → i < length xs → key (get_or xs i d) ≡ v → ⊥)
  searched (Ok k) l h = (l, order k Equal (h d))
  searched (Err k) l h =
      let (below, above) = h (IsNonDecreasingBy-from_default (λ x. ordering_index (nat_cmp (key x) v)) xs d (λ i j a b. higher (key (get_or xs i d)) (key (get_or xs j d)) (rises i j a b))) in
      λ i m e. by below above i m e (ltb i k) refl
    where
      by : ((i : ℕ) (d : X) → 0 ≤ i → i < k → nat_cmp (key (get_or xs i d)) v ≡ Less) → ((i : ℕ) (d : X) → k ≤ i → i < length xs → nat_cmp (key (get_or xs i d)) v ≡ Greater)
          → (i : ℕ) → i < length xs → key (get_or xs i d) ≡ v → (b : Bool) → ltb i k ≡ b → ⊥
      by below above i m e true q = omega (arith, e, order i Less (below i d (omega arith) (ltb-true i k q)))
      by below above i m e false q = omega (arith, e, order i Greater (above i d (ltb-false i k q) m))

-- so the search finds the place of the first entry with the number
module _ (ws : List ℕ) (v : ℕ) (rising : Rising ws) where
  placed : (k : ℕ) → k < length ws → type_at ws k ≡ v → place_of ws v ≡ Some k
  placed k l e =
      let q = position_or_len_is (λ w. eqb (entry_at w).type_no v) ws k 0 (omega (arith, l)) (λ i m. ne_eqb (type_at ws i) v (λ z. absurd (omega (arith, z, e, rising i k m l)))) (λ m. eq-eqb (type_at ws k) v e) in
      rw (q, lt-ltb k (length ws) l)

  unplaced : ((k : ℕ) → k < length ws → type_at ws k ≡ v → ⊥) → place_of ws v ≡ None
  unplaced n =
      let q = position_or_len_is (λ w. eqb (entry_at w).type_no v) ws (length ws) 0 (omega arith) (λ i m. ne_eqb (type_at ws i) v (n i m)) (λ m. absurd (omega (arith, m))) in
      rw (q, le-ltb (length ws) (length ws) (omega arith))

  pub searched_place : (r : Result ℕ ℕ) → IsSearchInRange r (length ws) → IsBinarySearchResult (λ w. nat_cmp (entry_at w).type_no v) ws r → result_ok r ≡ place_of ws v
  searched_place (Ok k) l h = let (m, e) = searched (λ w. (entry_at w).type_no) ws 0 v rising (Ok k) l h in sym (placed k m e)
  searched_place (Err k) l h = sym (unplaced (searched (λ w. (entry_at w).type_no) ws 0 v rising (Err k) l h))

-- the place that was found says what the type's text is
module _ (names ws : List ℕ) (v : ℕ) where
  pub found_text : (k : ℕ) → place_of ws v ≡ Some k → (k < length ws) × (type_text_in (names_of names ws) v ≡ spelled_at names (get_or ws k 0))
  found_text k e =
      let (l, t, f) = position-Some (λ w. eqb (entry_at w).type_no v) ws k 0 e in
      (l, text_found names ws v k l t f)

  pub unfound_text : place_of ws v ≡ None → type_text_in (names_of names ws) v ≡ type_text v
  unfound_text e = text_none names ws v (λ i l. fails_before_first test ws i 0 (by (position_or_len test ws) i l e))
    where
      test : ℕ → Bool
      test w = eqb (entry_at w).type_no v

      by : (n i : ℕ) → i < length ws → cond (ltb n (length ws)) (Some n) None ≡ None → i < n
      by n i l e = on (ltb n (length ws)) refl e
        where
          on : (b : Bool) → ltb n (length ws) ≡ b → cond b (Some n) None ≡ None → i < n
          on true q e = cc
          on false q e = omega (arith, l, ltb-false n (length ws) q)

-- an entry's name is short
pub spelled_short : (names : List ℕ) (w : ℕ) → Within names w → length (spelled_at names w) ≤ 63
spelled_short names w k = omega (arith, length-take (entry_at w).size (drop (entry_at w).start names), k.short)
