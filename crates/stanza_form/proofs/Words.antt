-- A text compared with a word, octet by octet.
use Prim.Native.Nat.{ℕ, suc}
use mathlib.Core.Path.{◌≡◌, refl, ap, ◌∙◌}
use mathlib.Core.Bool.{Bool, true, false, cond, and-false}
use mathlib.Core.List.{List, [], ◌∷◌}
use native.Mathlib.Omega.{arith}
use lib.ListN.{length, get_or}
use lib.Dec.{eqb}
use borrow.Author.Tests.{eqb-true}
use Rattle.format.specs.Octets.{same_octets}
use Rattle.format.specs.Types.{TypeRow, takes_of}
use Rattle.stanza_form.specs.Forms.{longer}

same_length : (xs ys : List ℕ) → (length xs ≡ length ys → ⊥) → same_octets xs ys ≡ false
same_length [] [] h = absurd (h refl)
same_length [] (y ∷ ys) h = refl
same_length (x ∷ xs) [] h = refl
same_length (x ∷ xs) (y ∷ ys) h = rw (same_length xs ys (λ e. h (ap suc e)), and-false)

-- a text of one letter
pub one_letter : (t : List ℕ) → length t ≡ 1 → t ≡ get_or t 0 0 ∷ []
one_letter [] h = absurd (omega arith)
one_letter (x ∷ []) h = refl
one_letter (x ∷ y ∷ t) h = absurd (omega arith)

-- a text that is not one letter is no type of one letter
pub longer_only : (rs : List TypeRow) (t : List ℕ) → (length t ≡ 1 → ⊥) → takes_of rs t ≡ takes_of (longer rs) t
longer_only [] t h = refl
longer_only (r ∷ rs) t h = by (eqb (length r.type_word) 1) refl (longer_only rs t h)
  where
    by : (b : Bool) → eqb (length r.type_word) 1 ≡ b → takes_of rs t ≡ takes_of (longer rs) t
        → takes_of (r ∷ rs) t ≡ takes_of (cond b (longer rs) (r ∷ longer rs)) t
    by true e ih = rw (same_length t r.type_word (λ q. h (q ∙ eqb-true (length r.type_word) 1 e))) ih
    by false e ih = rw ih
