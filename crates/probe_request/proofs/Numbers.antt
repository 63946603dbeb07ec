-- Laws of the number that a word spells, read digit by digit.
use Rattle.std.proofs.Common.{◌≡◌, ℕ, ◌+◌, ◌*◌, ◌-◌, ◌^◌, ◌≤◌, ◌<◌, List, [], ◌∷◌, length, drop, get_or, arith, refl, sym, ◌∙◌, ap}
use Rattle.std.specs.Prelude.{Option, None, Some}
use borrow.Author.Tests.{lt-ltb, le-ltb, le-leb}
use Rattle.format.specs.Lists.{◌>>=◌, cons_both, each_of}
use Rattle.format.specs.Digits.{number_from, digit_value}
use Rattle.format.specs.Number.{below}
use Rattle.format.proofs.Lists.{drop_next, drop_none}
use Rattle.probe_request.specs.Request.{number_of}

-- the number of digits that are v so far and go on with these
abbrev pub number_on : ℕ → List ℕ → Option ℕ
number_on v xs = below (2 ^ 64) (each_of (digit_value 10) xs >>= λ ds. Some (number_from 10 v ds))

-- the first of them; or it is none, and there is no number
digit_step : (v x : ℕ) (xs : List ℕ) → 48 ≤ x → x ≤ 57 → number_on v (x ∷ xs) ≡ number_on (v * 10 + (x - 48)) xs
digit_step v x xs l h = let k : x - 48 < 10 = omega arith in rw (le-leb 48 x l, le-leb x 57 h, lt-ltb (x - 48) 10 k) (by (each_of (digit_value 10) xs))
  where
    by : (o : Option (List ℕ)) → below (2 ^ 64) (cons_both (Some (x - 48)) o >>= λ ds. Some (number_from 10 v ds)) ≡ below (2 ^ 64) (o >>= λ ds. Some (number_from 10 (v * 10 + (x - 48)) ds))
    by None = refl
    by (Some ds) = refl

-- a value that is too large stays so, whatever digits follow
grows : (v : ℕ) (ds : List ℕ) → v ≤ number_from 10 v ds
grows v [] = omega arith
grows v (d ∷ ds) = omega (arith, grows (v * 10 + d) ds)

too_great : (v : ℕ) (xs : List ℕ) → 2 ^ 64 ≤ v → number_on v xs ≡ None
too_great v xs h = by (each_of (digit_value 10) xs)
  where
    by : (o : Option (List ℕ)) → below (2 ^ 64) (o >>= λ ds. Some (number_from 10 v ds)) ≡ None
    by None = refl
    by (Some ds) = rw (le-ltb (number_from 10 v ds) (2 ^ 64) (omega (arith, grows v ds)))

-- The digits before i make v, and those from i on are still to be read.
module _ (t : List ℕ) (i v : ℕ) (h : number_on v (drop i t) ≡ number_of t) where
  pub great : i < length t → 48 ≤ get_or t i 0 → get_or t i 0 ≤ 57 → 2 ^ 64 ≤ v * 10 + (get_or t i 0 - 48) → number_of t ≡ None
  great k a b g = sym h ∙ ap (number_on v) (drop_next t i k) ∙ digit_step v (get_or t i 0) (drop (i + 1) t) a b ∙ too_great (v * 10 + (get_or t i 0 - 48)) (drop (i + 1) t) g

  pub all_read : length t ≤ i → v < 2 ^ 64 → number_of t ≡ Some v
  all_read k s = sym h ∙ ap (number_on v) (drop_none t i k) ∙ rw (lt-ltb v (2 ^ 64) s)
