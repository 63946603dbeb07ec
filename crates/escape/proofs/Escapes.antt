-- One escape, octet by octet.
use Prim.Native.Nat.{ℕ, ◌+◌, ◌-◌, ◌*◌, ◌≤◌, ◌<◌}
use mathlib.Core.Path.{◌≡◌, refl, ap, ◌∙◌}
use mathlib.Core.Bool.{Bool, true, false}
use mathlib.Core.List.{List, [], ◌∷◌}
use Rattle.std.specs.Prelude.{Option, None, Some}
use native.Mathlib.Omega.{arith}
use borrow.Author.Tests.{le-leb, lt-leb}
use lib.Dec.{eqb}
use lib.ListN.{length, get_or, drop}
use lib.Seq.{drop-drop}
use Rattle.format.specs.Lists.{cons_both, provided}
use Rattle.format.specs.Octets.{digit}
use Rattle.format.specs.Token.{plain, escape, outside, slash, one_digit, two_digits, unescaped_from}
use Rattle.format.proofs.Lists.{drop_next, not_true}
use Rattle.escape.specs.Escapes.{no_escape, items_after}

-- an octet has a value exactly if it is a digit
module _ (x : ℕ) where
  pub no_digit : provided (digit x) (x - 48) ≡ None → digit x ≡ false
  no_digit e = by (digit x) refl e
    where
      by : (b : Bool) → digit x ≡ b → provided b (x - 48) ≡ None → digit x ≡ false
      by true f g = cc
      by false f g = f

  pub a_digit : (v : ℕ) → provided (digit x) (x - 48) ≡ Some v → (digit x ≡ true) × (v ≡ x - 48)
  a_digit v e = by (digit x) refl e
    where
      by : (b : Bool) → digit x ≡ b → provided b (x - 48) ≡ Some v → (digit x ≡ true) × (v ≡ x - 48)
      by true f g = (f, cc)
      by false f g = cc

-- an octet that begins no escape; and a backslash and what follows it
pub plain_unescaped : (x : ℕ) (xs : List ℕ) → no_escape x ≡ true → unescaped_from outside (x ∷ xs) ≡ cons_both (Some (plain x)) (unescaped_from outside xs)
unfolding unescaped_from
plain_unescaped x xs h = rw (not_true (eqb x 92) h)

pub slash_unescaped : (xs : List ℕ) → unescaped_from outside (92 ∷ xs) ≡ unescaped_from slash xs
unfolding unescaped_from
slash_unescaped xs = refl

pub slash_none : (t : List ℕ) → length t ≡ 0 → unescaped_from slash t ≡ None
unfolding unescaped_from
slash_none [] h = refl
slash_none (x ∷ t) h = absurd (omega arith)

slash_other : (x : ℕ) (xs : List ℕ) → digit x ≡ false → unescaped_from slash (x ∷ xs) ≡ cons_both (Some (escape x)) (unescaped_from outside xs)
unfolding unescaped_from
slash_other x xs h = rw h

slash_digit : (x : ℕ) (xs : List ℕ) → digit x ≡ true → unescaped_from slash (x ∷ xs) ≡ unescaped_from (one_digit (x - 48)) xs
unfolding unescaped_from
slash_digit x xs h = rw h

one_other : (v x : ℕ) (xs : List ℕ) → digit x ≡ false → unescaped_from (one_digit v) (x ∷ xs) ≡ None
unfolding unescaped_from
one_other v x xs h = rw h

one_digit_lem : (v x : ℕ) (xs : List ℕ) → digit x ≡ true → unescaped_from (one_digit v) (x ∷ xs) ≡ unescaped_from (two_digits (v * 10 + (x - 48))) xs
unfolding unescaped_from
one_digit_lem v x xs h = rw h

one_short : (v : ℕ) (xs : List ℕ) → length xs < 2 → unescaped_from (one_digit v) xs ≡ None
unfolding unescaped_from
one_short v [] h = refl
one_short v (x ∷ []) h = by (digit x) refl
  where
    by : (b : Bool) → digit x ≡ b → unescaped_from (one_digit v) (x ∷ []) ≡ None
    by true e = rw e
    by false e = rw e
one_short v (x ∷ y ∷ xs) h = absurd (omega arith)

two_other : (v x : ℕ) (xs : List ℕ) → digit x ≡ false → unescaped_from (two_digits v) (x ∷ xs) ≡ None
unfolding unescaped_from
two_other v x xs h = rw h

two_high : (v x : ℕ) (xs : List ℕ) → digit x ≡ true → 255 < v * 10 + (x - 48) → unescaped_from (two_digits v) (x ∷ xs) ≡ None
unfolding unescaped_from
two_high v x xs h k = rw (h, lt-leb (v * 10 + (x - 48)) 255 k)

two_digit : (v x : ℕ) (xs : List ℕ) → digit x ≡ true → v * 10 + (x - 48) ≤ 255
    → unescaped_from (two_digits v) (x ∷ xs) ≡ cons_both (Some (escape (v * 10 + (x - 48)))) (unescaped_from outside xs)
unfolding unescaped_from
two_digit v x xs h k = rw (h, le-leb (v * 10 + (x - 48)) 255 k)

-- the octet at a place is no digit, or one with this value
abbrev NoDigitAt : List ℕ → ℕ → Type 0
NoDigitAt t i = provided (digit (get_or t i 0)) (get_or t i 0 - 48) ≡ None

abbrev ValueAt : List ℕ → ℕ → ℕ → Type 0
ValueAt t i v = provided (digit (get_or t i 0)) (get_or t i 0 - 48) ≡ Some v

-- the same where they stand
module _ (t : List ℕ) where
  pub other_octet : 0 < length t → NoDigitAt t 0 → unescaped_from slash t ≡ cons_both (Some (escape (get_or t 0 0))) (unescaped_from outside (drop 1 t))
  other_octet h p = ap (unescaped_from slash) (drop_next t 0 h) ∙ slash_other (get_or t 0 0) (drop 1 t) (no_digit (get_or t 0 0) p)

  pub first_digit : (x : ℕ) → 0 < length t → ValueAt t 0 x → unescaped_from slash t ≡ unescaped_from (one_digit x) (drop 1 t)
  first_digit x h p =
      let d = a_digit (get_or t 0 0) x p in
      ap (unescaped_from slash) (drop_next t 0 h) ∙ rw d.1 (slash_digit (get_or t 0 0) (drop 1 t) d.0)

  pub too_few : (v : ℕ) → length t < 2 → unescaped_from (one_digit v) t ≡ None
  too_few v h = one_short v t h

  pub no_second : (v : ℕ) → 0 < length t → NoDigitAt t 0 → unescaped_from (one_digit v) t ≡ None
  no_second v h p = ap (unescaped_from (one_digit v)) (drop_next t 0 h) ∙ one_other v (get_or t 0 0) (drop 1 t) (no_digit (get_or t 0 0) p)

  module _ (v x : ℕ) (h : 2 ≤ length t) (p : ValueAt t 0 x) where
    second : unescaped_from (one_digit v) t ≡ unescaped_from (two_digits (v * 10 + x)) (get_or t 1 0 ∷ drop 2 t)
    second =
        let d = a_digit (get_or t 0 0) x p in
        ap (unescaped_from (one_digit v)) (drop_next t 0 (omega arith)) ∙ rw d.1 (one_digit_lem v (get_or t 0 0) (drop 1 t) d.0) ∙ ap (unescaped_from (two_digits (v * 10 + x))) (drop_next t 1 h)

    pub no_third : NoDigitAt t 1 → unescaped_from (one_digit v) t ≡ None
    no_third q = second ∙ two_other (v * 10 + x) (get_or t 1 0) (drop 2 t) (no_digit (get_or t 1 0) q)

    pub too_high : (y : ℕ) → ValueAt t 1 y → 255 < (v * 10 + x) * 10 + y → unescaped_from (one_digit v) t ≡ None
    too_high y q w = let d = a_digit (get_or t 1 0) y q in second ∙ two_high (v * 10 + x) (get_or t 1 0) (drop 2 t) d.0 (omega (arith, d.1))

    pub three_digits : (y : ℕ) → ValueAt t 1 y → (v * 10 + x) * 10 + y ≤ 255 → unescaped_from (one_digit v) t ≡ cons_both (Some (escape ((v * 10 + x) * 10 + y))) (unescaped_from outside (drop 2 t))
    three_digits y q w = let d = a_digit (get_or t 1 0) y q in second ∙ rw d.1 (two_digit (v * 10 + x) (get_or t 1 0) (drop 2 t) d.0 (omega (arith, d.1)))

-- an escape whose first digit stands before the others takes one octet more
pub items_later : (t : List ℕ) (r : Option (ℕ × ℕ)) (x n : ℕ) → r ≡ Some (x, n) → items_after (drop 1 t) r ≡ items_after t (Some (x, n + 1))
items_later t r x n e = rw (e, drop-drop n 1 t) (ap (λ (k : ℕ). cons_both (Some (escape x)) (unescaped_from outside (drop k t))) (omega arith))
