-- Laws of the first of the longest runs of zero groups, searched from the last group backwards.
use Prim.Native.Nat.{ℕ, zero, suc, ◌+◌, ◌*◌, ◌-◌, ◌≤◌, ◌<◌, max}
use mathlib.Core.Path.{◌≡◌, refl, sym, ap, ◌∙◌}
use mathlib.Core.Bool.{Bool, true, false, cond}
use mathlib.Core.List.{List, [], ◌∷◌, ◌++◌}
use native.Mathlib.Omega.{arith}
use lib.Dec.{leb, eqb}
use lib.ListN.{length, take, drop, get_or, length-drop, drop_of_length-le}
use lib.Seq.{drop-drop}
use borrow.Author.Tests.{le-ltb, leb-true, leb-false, eq-eqb, ne_eqb}
use Rattle.format.specs.Address.{groups, group_text, colons, zeros_at, longest_zeros, aaaa_text}
use Rattle.format.proofs.Field.{pieces_bound}
use Rattle.format.proofs.Address.{groups_short}
use Rattle.address.specs.Zeros.{Longest}
use Rattle.address.proofs.GroupTexts.{group_short}

-- the groups from a place on, up to it, and after it
pub groups_from : (k i : ℕ) (p : List ℕ) → i ≡ 2 * k → groups (drop i p) ≡ drop k (groups p)
groups_from zero zero p h = refl
groups_from zero (suc i) p h = absurd (omega arith)
groups_from (suc k) zero p h = absurd (omega arith)
groups_from (suc k) (suc zero) p h = absurd (omega arith)
groups_from (suc k) (suc (suc i)) [] h = refl
groups_from (suc k) (suc (suc i)) (x ∷ []) h = refl
groups_from (suc k) (suc (suc i)) (x ∷ y ∷ p) h = groups_from k i p (omega arith)

pub groups_upto : (k i : ℕ) (p : List ℕ) → i ≡ 2 * k → groups (take i p) ≡ take k (groups p)
groups_upto zero zero p h = refl
groups_upto zero (suc i) p h = absurd (omega arith)
groups_upto (suc k) zero p h = absurd (omega arith)
groups_upto (suc k) (suc zero) p h = absurd (omega arith)
groups_upto (suc k) (suc (suc i)) [] h = refl
groups_upto (suc k) (suc (suc i)) (x ∷ []) h = refl
groups_upto (suc k) (suc (suc i)) (x ∷ y ∷ p) h = ap (λ gs. (x * 256 + y) ∷ gs) (groups_upto k i p (omega arith))

group_first : (p : List ℕ) → 2 ≤ length p → groups p ≡ (get_or p 0 0 * 256 + get_or p 1 0) ∷ groups (drop 2 p)
group_first [] h = absurd (omega arith)
group_first (x ∷ []) h = absurd (omega arith)
group_first (x ∷ y ∷ p) h = refl

pub group_at : (k j : ℕ) (p : List ℕ) → j ≡ k + 1 → 2 * j ≤ length p → drop k (groups p) ≡ (get_or (drop (2 * k) p) 0 0 * 256 + get_or (drop (2 * k) p) 1 0) ∷ drop j (groups p)
group_at k j p q h =
    sym (groups_from k (2 * k) p refl) ∙ group_first (drop (2 * k) p) (omega (arith, length-drop (2 * k) p))
    ∙ ap (λ gs. (get_or (drop (2 * k) p) 0 0 * 256 + get_or (drop (2 * k) p) 1 0) ∷ gs) (ap groups (drop-drop 2 (2 * k) p) ∙ groups_from j (2 * k + 2) p (omega arith))

-- sixteen octets have no group after eight
pub no_group : (p : List ℕ) → length p ≡ 16 → drop 8 (groups p) ≡ []
no_group p h = let l : length p ≤ 16 = omega arith in sym (groups_from 8 16 p refl) ∙ ap groups (drop_of_length-le p l)

zeros_short : (gs : List ℕ) → zeros_at gs ≤ length gs
zeros_short [] = omega arith
zeros_short (zero ∷ gs) = omega (arith, zeros_short gs)
zeros_short (suc g ∷ gs) = omega arith

-- a zero group before others, and a group that is not zero
pub zero_before : (g z : ℕ) (gs : List ℕ) → g ≡ 0 → z ≡ zeros_at gs → z + 1 ≡ zeros_at (g ∷ gs)
zero_before zero z gs h q = omega (arith, q)
zero_before (suc g) z gs h q = absurd (omega arith)

pub other_before : (g : ℕ) (gs : List ℕ) → (g ≡ 0 → ⊥) → 0 ≡ zeros_at (g ∷ gs)
other_before zero gs h = absurd (h refl)
other_before (suc g) gs h = refl

pub run_none : Longest [] 0 0
unfolding longest_zeros
run_none = record { longest = refl; before = refl; after = refl; within = omega arith }

-- one more group, before the others
module _ (g z : ℕ) (gs : List ℕ) (count : ℕ) (w : z ≡ zeros_at (g ∷ gs)) where
  here : (at : ℕ) → Longest gs at count → count ≤ z → Longest (g ∷ gs) 0 z
  unfolding longest_zeros
  here at o a =
      let t : eqb (zeros_at (g ∷ gs)) z ≡ true = eq-eqb _ _ (sym w) in
      let q : 0 + z ≡ z = omega arith in
      record {
        longest = omega (arith, o.longest);
        before = rw t;
        after = ap (λ n. drop n (g ∷ gs)) q ∙ rw t;
        within = omega (arith, zeros_short (g ∷ gs));
      }

  later : (at : ℕ) → Longest gs at count → z < count → Longest (g ∷ gs) (suc at) count
  unfolding longest_zeros
  later at o a =
      let t : eqb (zeros_at (g ∷ gs)) count ≡ false = ne_eqb _ _ (λ (x : zeros_at (g ∷ gs) ≡ count). omega arith) in
      let q : suc at + count ≡ suc (at + count) = omega arith in
      record {
        longest = omega (arith, o.longest);
        before = rw t (ap (λ l. g ∷ l) o.before);
        after = rw (t, q) o.after;
        within = omega (arith, o.within);
      }

  -- the group stands at j, and the others from k on
  pub run_next : (j k at : ℕ) → k ≡ j + 1 → k ≤ at → Longest gs (at - k) count → (at' count' : ℕ) → at' ≡ cond (leb count z) j at → count' ≡ max z count
      → (j ≤ at') × Longest (g ∷ gs) (at' - j) count'
  run_next j k at n h o at' count' x y = by (leb count z) refl
    where
      by : (b : Bool) → leb count z ≡ b → (j ≤ at') × Longest (g ∷ gs) (at' - j) count'
      by true t =
          let a : count ≤ z = leb-true count z t in
          let u : at' ≡ j = x ∙ rw t in
          let v : at' - j ≡ 0 = omega arith in
          let m : count' ≡ z = omega arith in
          (omega arith, rw (v, m) (here (at - k) o a))
      by false t =
          let a : z < count = leb-false count z t in
          let u : at' ≡ at = x ∙ rw t in
          let v : at' - j ≡ suc (at - k) = omega arith in
          let m : count' ≡ count = omega arith in
          (omega arith, rw (v, m) (later (at - k) o a))

-- the length of a text of groups with colons between them
pub colons_short : (p : List ℕ) → 2 * length (colons (groups p)) ≤ 5 * length p
colons_short p = omega (arith, pieces_bound 4 58 group_text (groups p) group_short, groups_short p)

-- the text with `::`
module _ (gs : List ℕ) (at count : ℕ) (o : Longest gs at count) where
  pub parted_text : 2 ≤ count → colons (take at gs) ++ (58 ∷ 58 ∷ colons (drop (at + count) gs)) ≡ aaaa_text gs
  parted_text h = rw (← o.longest, le-ltb count 2 h, o.before, o.after)
