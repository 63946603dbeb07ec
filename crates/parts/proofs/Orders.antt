-- The order of texts is total, and texts that stand nowhere before one another are the same.
use Prim.Native.Nat.{ℕ, ◌<◌, min}
use mathlib.Core.Path.{◌≡◌, refl, sym, ap, ◌∙◌}
use mathlib.Core.Bool.{Bool, true, false, ◌&&◌}
use mathlib.Core.List.{List, [], ◌∷◌, map}
use native.Mathlib.Omega.{arith}
use lib.ListN.{length, drop}
use lib.Seq.{slice, take_all, take-length}
use lib.Dec.{eqb, leb}
use borrow.Author.Tests.{eq-eqb, ne_eqb, leb-true, leb-false}
use Rattle.std.specs.Ordering.{nat_cmp, MatchOrdering, is_eq, ordering_then, ordering_reverse}
use Rattle.std.specs.Cmp.{ranks, IsTotalOrder}
use Rattle.std.proofs.Common.{Ordering, Less, Equal, Greater}
use Rattle.std.proofs.lemmas.Cmp.{on_total, nat_list_cmp_total}
use Rattle.octets.proofs.Slices.{none}
use Rattle.stanza_words.specs.Qualifiers.{same_by}
use Rattle.stanza_words.proofs.Laws.{same_next}
use Rattle.parts.specs.Parts.{folded, order_by}

pub order_total : (g : Bool) → IsTotalOrder (order_by g)
order_total g = on_total (map (folded g)) nat_list_cmp_total

number_equal : (a b : ℕ) → eqb a b ≡ is_eq (nat_cmp a b)
number_equal a b = by (nat_cmp a b) (ranks a b)
  where
    by : (o : Ordering) → MatchOrdering o (a < b) (a ≡ b) (b < a) → eqb a b ≡ is_eq o
    by Less l = ne_eqb a b (λ e. omega (arith, l, e))
    by Equal e = eq-eqb a b e
    by Greater l = ne_eqb a b (λ e. omega (arith, l, e))

then_equal : (o p : Ordering) → is_eq o && is_eq p ≡ is_eq (ordering_then o p)
then_equal Less p = refl
then_equal Equal p = refl
then_equal Greater p = refl

reverse_equal : (o : Ordering) → is_eq (ordering_reverse o) ≡ is_eq o
reverse_equal Less = refl
reverse_equal Equal = refl
reverse_equal Greater = refl

-- texts are the same where neither is less
pub same_equal : (g : Bool) (xs ys : List ℕ) → same_by g xs ys ≡ is_eq (order_by g xs ys)
same_equal true [] [] = refl
same_equal false [] [] = refl
same_equal true [] (y ∷ ys) = refl
same_equal false [] (y ∷ ys) = refl
same_equal true (x ∷ xs) [] = refl
same_equal false (x ∷ xs) [] = refl
same_equal g (x ∷ xs) (y ∷ ys) =
    same_next g x y xs ys ∙ ap (λ b. b && same_by g xs ys) (number_equal (folded g x) (folded g y)) ∙ ap (λ b. is_eq (nat_cmp (folded g x) (folded g y)) && b) (same_equal g xs ys)
    ∙ then_equal (nat_cmp (folded g x) (folded g y)) (order_by g xs ys)

pub same_sym : (g : Bool) (xs ys : List ℕ) → same_by g xs ys ≡ same_by g ys xs
same_sym g xs ys = same_equal g xs ys ∙ ap is_eq ((order_total g).antisymm xs ys) ∙ reverse_equal (order_by g ys xs) ∙ sym (same_equal g ys xs)

-- a part that is cut at the end of the text
cut : (s : List ℕ) (a b : ℕ) → slice a (min (length s) b) s ≡ slice a b s
cut s a b = by (leb b (length s)) refl
  where
    by : (c : Bool) → leb b (length s) ≡ c → slice a (min (length s) b) s ≡ slice a b s
    by true h = let q : min (length s) b ≡ b = omega (arith, leb-true b (length s) h) in rw q
    by false h =
        let l = leb-false b (length s) h in
        let q : min (length s) b ≡ length s = omega (arith, l) in
        rw q (ap (drop a) (take-length s ∙ sym (take_all b s (omega arith))))

-- a part that starts where it ends, at the latest
part_start : (s : List ℕ) (a e : ℕ) → slice (min e a) e s ≡ slice a e s
part_start s a e = by (leb a e) refl
  where
    by : (c : Bool) → leb a e ≡ c → slice (min e a) e s ≡ slice a e s
    by true h = let q : min e a ≡ a = omega (arith, leb-true a e h) in rw q
    by false h =
        let l = leb-false a e h in
        let q : min e a ≡ e = omega (arith, l) in
        rw (q, none s e e (omega arith), none s a e (omega (arith, l)))

pub part_cut : (s : List ℕ) (a b : ℕ) → slice (min (min (length s) b) a) (min (length s) b) s ≡ slice a b s
part_cut s a b = part_start s a (min (length s) b) ∙ cut s a b
