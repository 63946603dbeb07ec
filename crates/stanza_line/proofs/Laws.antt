-- Laws of the names that the judge keeps.
use Prim.Native.Nat.{ℕ, ◌-◌, ◌≤◌, ◌<◌, min}
use mathlib.Core.Path.{◌≡◌, refl, sym, ap, ◌∙◌}
use mathlib.Core.Bool.{Bool, true, false, not, ◌&&◌}
use mathlib.Core.List.{List, [], ◌∷◌}
use native.Mathlib.Omega.{arith}
use lib.ListN.{length, take, drop}
use lib.Seq.{slice, length-slice, take_all, take-length}
use lib.Dec.{leb}
use Rattle.format.specs.Lists.{null}
use Rattle.format.specs.Octets.{same_word}
use Rattle.octets.proofs.Slices.{lent}
use Rattle.stanza_line.specs.Verdict.{same_text}

-- a part that is cut at the end of the list
cut : (s : List ℕ) (x y f : ℕ) → f ≡ min y (length s) → slice x y s ≡ slice x f s
cut s x y f e = by (leb y (length s)) refl
  where
    by : (b : Bool) → leb y (length s) ≡ b → slice x y s ≡ slice x f s
    by true h = let q : f ≡ y = omega (arith, borrow.Author.Tests.leb-true y (length s) h) in rw q
    by false h =
        let l = borrow.Author.Tests.leb-false y (length s) h in
        let q : f ≡ length s = omega arith in
        rw (q) (ap (drop x) (take_all y s (omega arith) ∙ sym (take-length s)))

-- whether two names are the same
pub same_there : (s t : List ℕ) (x y a f : ℕ) (r : Bool) → a ≡ x → f ≡ min y (length s) → a < f → r ≡ same_word (take (f - a) (drop a s)) t → r ≡ same_text (slice x y s) t
same_there s t x y a f r p q h k =
    rw (← p, cut s a y f q) (k ∙ ap (λ u. same_word u t) (lent s a f (omega arith)) ∙ by (slice a f s) (omega (arith, length-slice a f s (omega arith))))
  where
    by : (u : List ℕ) → 1 ≤ length u → same_word u t ≡ not (null u) && same_word u t
    by [] l = absurd (omega arith)
    by (z ∷ u) l = refl
