-- Where the first double colon of a text stands.
use Prim.Native.Nat.{ℕ, ◌+◌, ◌≤◌, ◌<◌}
use mathlib.Core.Path.{◌≡◌, refl, sym, ap, ◌∙◌}
use mathlib.Core.Bool.{true, false}
use mathlib.Core.List.{List, [], ◌∷◌, ◌++◌, append-nil}
use native.Mathlib.Omega.{arith}
use native.Mathlib.Numerals.{add-one}
use lib.ListN.{length, take, drop, get_or, length-drop}
use lib.Seq.{take-suc, drop-drop}
use Rattle.format.specs.Address.{Doubled, single, double, into_before, at_double_colon}
use Rattle.format.proofs.Lists.{drop_next}
use Rattle.format.proofs.Address.{before_all, all_single, all_double}
use Rattle.address.specs.Address.{two_colons}

before_last : (t : List ℕ) (x : ℕ) (d : Doubled) → before_all (t ++ x ∷ []) d ≡ before_all t (into_before x d)
before_last [] x d = refl
before_last (y ∷ t) x d = ap (into_before y) (before_last t x d)

-- two colons come first, or not
at_first : (xs : List ℕ) → two_colons xs ≡ true → at_double_colon xs ≡ double [] (drop 2 xs)
at_first [] h = cc
at_first (x ∷ []) h = cc
at_first (x ∷ y ∷ xs) h = rw h

not_first : (x : ℕ) (xs : List ℕ) → two_colons (x ∷ xs) ≡ false → at_double_colon (x ∷ xs) ≡ into_before x (at_double_colon xs)
not_first x [] h = refl
not_first x (y ∷ xs) h = rw h

at_one : (t : List ℕ) → length t ≤ 1 → at_double_colon t ≡ single
at_one [] h = refl
at_one (x ∷ []) h = refl
at_one (x ∷ y ∷ t) h = absurd (omega arith)

-- no double colon begins before i: the first one of the text is the first one from i on
abbrev pub Passed : List ℕ → ℕ → Type 0
Passed t i = at_double_colon t ≡ before_all (take i t) (at_double_colon (drop i t))

module _ (t : List ℕ) (i : ℕ) (p : Passed t i) where
  pub passed_on : i < length t → two_colons (drop i t) ≡ false → Passed t (i + 1)
  passed_on h f =
      let e = drop_next t i h in
      let g : two_colons (get_or t i 0 ∷ drop (i + 1) t) ≡ false = rw e at f in
      p ∙ ap (λ xs. before_all (take i t) (at_double_colon xs)) e ∙ ap (before_all (take i t)) (not_first (get_or t i 0) (drop (i + 1) t) g)
      ∙ sym (before_last (take i t) (get_or t i 0) (at_double_colon (drop (i + 1) t)))
      ∙ ap (λ xs. before_all xs (at_double_colon (drop (i + 1) t))) (sym (ap (λ n. take n t) (add-one i) ∙ take-suc t i 0 h))

  pub passed_found : two_colons (drop i t) ≡ true → at_double_colon t ≡ double (take i t) (drop (i + 2) t)
  passed_found f =
      p ∙ ap (before_all (take i t)) (at_first (drop i t) f ∙ ap (double []) (drop-drop 2 i t)) ∙ all_double (take i t) [] (drop (i + 2) t)
      ∙ ap (λ xs. double xs (drop (i + 2) t)) (append-nil (take i t))

  pub passed_all : length t ≤ i + 1 → at_double_colon t ≡ single
  passed_all h = p ∙ ap (before_all (take i t)) (at_one (drop i t) (omega (arith, length-drop i t))) ∙ all_single (take i t)
