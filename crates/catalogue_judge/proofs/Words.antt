-- The number of a word: by the table it is found octet by octet, and words that are the same but for case have the same one.
use Prim.Native.Nat.{ℕ, ◌+◌, ◌*◌, ◌%◌, ◌<◌}
use mathlib.Core.Path.{◌≡◌, refl, sym, ap, subst, ◌∙◌}
use mathlib.Core.Bool.{Bool, true, false, not, cond, ◌&&◌, ◌||◌}
use mathlib.Core.List.{List, [], ◌∷◌}
use native.Mathlib.Omega.{arith}
use native.Mathlib.Nat.{mod-lt}
use lib.ListN.{length, drop, get_or}
use Rattle.std.specs.Prelude.{None, Some}
use lib.Dec.{eqb}
use borrow.Author.Tests.{eqb-true, eq-eqb}
use Rattle.format.specs.Lists.{all_of}
use Rattle.format.specs.Octets.{name_octet, lowered, same_word}
use Rattle.format.proofs.Lists.{and_left, and_right, not_true, implied, drop_next}
use Rattle.format.proofs.Finite.{at_each}
use Rattle.catalogue_judge.specs.Judging.{folded_octet, folded_table, mixed, word_from}

-- the table holds each octet of a name in lower case, and 0 for any other
table_at : (x : ℕ) → x < 256 → get_or folded_table x 0 ≡ folded_octet x
unfolding folded_table
table_at x l = eqb-true (get_or folded_table x 0) (folded_octet x) (at_each (λ x. eqb (get_or folded_table x 0) (folded_octet x)) 256 refl x l)

no_name_octet : (x : ℕ) → x < 256 → folded_octet x ≡ 0 → name_octet x ≡ false
no_name_octet x l e =
    not_true (name_octet x) (implied (eqb (folded_octet x) 0) (not (name_octet x)) (at_each (λ x. not (eqb (folded_octet x) 0) || not (name_octet x)) 256 refl x l) (eq-eqb (folded_octet x) 0 e))

name_octet_lem : (x : ℕ) → (folded_octet x ≡ 0 → ⊥) → (name_octet x ≡ true) × (folded_octet x ≡ lowered x)
name_octet_lem x n = by (name_octet x) refl
  where
    by : (b : Bool) → name_octet x ≡ b → (name_octet x ≡ true) × (folded_octet x ≡ lowered x)
    by true e = (e, rw e)
    by false e = absurd (n (rw e))

-- one octet of a word more; f is what the table holds for it
module _ (t : List ℕ) (i h f : ℕ) (l : i < length t) (o : get_or t i 0 < 256) (q : f ≡ get_or folded_table (get_or t i 0) 0) where
  folded : f ≡ folded_octet (get_or t i 0)
  folded = q ∙ table_at (get_or t i 0) o

  pub word_off : f ≡ 0 → word_from h (drop i t) ≡ None
  word_off z = rw (drop_next t i l, no_name_octet (get_or t i 0) o (sym folded ∙ z))

  pub word_on : (f ≡ 0 → ⊥) → word_from ((h * 129 + f) % 72057594037927936) (drop (i + 1) t) ≡ word_from h (drop i t)
  word_on z =
      let (a, b) = name_octet_lem (get_or t i 0) (λ y. z (folded ∙ y)) in
      ap (λ x. word_from (mixed h x) (drop (i + 1) t)) (folded ∙ b) ∙ rw (drop_next t i l, a)

-- the number of a name is below 2^56
pub word_below : (h : ℕ) (t : List ℕ) (v : ℕ) → h < 72057594037927936 → word_from h t ≡ Some v → v < 72057594037927936
word_below h [] v l e = let z : h ≡ v = cc in subst (λ x. x < 72057594037927936) z l
word_below h (x ∷ t) v l e = by (name_octet x) (word_below (mixed h (lowered x)) t v (mod-lt _ (omega arith))) e
  where
    by : (b : Bool) → (word_from (mixed h (lowered x)) t ≡ Some v → v < 72057594037927936) → cond b (word_from (mixed h (lowered x)) t) None ≡ Some v → v < 72057594037927936
    by true ih q = ih q
    by false ih q = let z : ◌≡◌ {A = ℕ} 0 1 = cc in absurd (omega arith)

-- a name has a number, and other words have none
pub word_named : (h : ℕ) (t : List ℕ) → all_of name_octet t ≡ true → word_from h t ≡ None → ⊥
word_named h [] a e = let z : ◌≡◌ {A = ℕ} 0 1 = cc in absurd (omega arith)
word_named h (x ∷ t) a e =
    word_named (mixed h (lowered x)) t (and_right (name_octet x) (all_of name_octet t) a)
    (ap (λ c. cond c (word_from (mixed h (lowered x)) t) None) (sym (and_left (name_octet x) (all_of name_octet t) a)) ∙ e)

pub word_none : (h : ℕ) (t : List ℕ) → all_of name_octet t ≡ false → word_from h t ≡ None
word_none h [] a = cc
word_none h (x ∷ t) a = by (name_octet x) a (word_none (mixed h (lowered x)) t)
  where
    by : (b : Bool) → b && all_of name_octet t ≡ false → (all_of name_octet t ≡ false → word_from (mixed h (lowered x)) t ≡ None) → cond b (word_from (mixed h (lowered x)) t) None ≡ None
    by true a ih = ih a
    by false a ih = refl

-- names that are the same have the same number
words_same : (h : ℕ) (t u : List ℕ) → all_of name_octet t ≡ true → all_of name_octet u ≡ true → same_word t u ≡ true → word_from h t ≡ word_from h u
words_same h [] [] a b e = refl
words_same h [] (y ∷ u) a b e = cc
words_same h (x ∷ t) [] a b e = cc
words_same h (x ∷ t) (y ∷ u) a b e =
    let q : lowered x ≡ lowered y = eqb-true (lowered x) (lowered y) (and_left (eqb (lowered x) (lowered y)) (same_word t u) e) in
    let ih = words_same (mixed h (lowered y)) t u (and_right (name_octet x) (all_of name_octet t) a) (and_right (name_octet y) (all_of name_octet u) b) (and_right (eqb (lowered x) (lowered y)) (same_word t u) e) in
    ap (λ c. cond c (word_from (mixed h (lowered x)) t) None) (and_left (name_octet x) (all_of name_octet t) a)
    ∙ ap (λ z. word_from (mixed h z) t) q ∙ ih
    ∙ sym (ap (λ c. cond c (word_from (mixed h (lowered y)) u) None) (and_left (name_octet y) (all_of name_octet u) b))

pub words_other : (t u : List ℕ) → all_of name_octet t ≡ true → all_of name_octet u ≡ true → (word_from 0 t ≡ word_from 0 u → ⊥) → same_word t u ≡ false
words_other t u a b n = by (same_word t u) refl
  where
    by : (c : Bool) → same_word t u ≡ c → c ≡ false
    by true e = absurd (n (words_same 0 t u a b e))
    by false e = refl
