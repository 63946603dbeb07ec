-- Laws of a list of octets, or what is left of one, that is made of counted pieces.
use Prim.Native.Nat.{ℕ, zero, suc, ◌+◌, ◌≤◌}
use mathlib.Core.Path.{◌≡◌, refl, sym, ap, ◌∙◌}
use mathlib.Core.List.{List, [], ◌∷◌}
use native.Mathlib.Omega.{arith}
use lib.ListN.{length, take, drop, get_or, length-drop}
use Rattle.std.proofs.lemmas.List.{drop-drop}
use Rattle.format.specs.Lists.{cons_first}
use Rattle.format.specs.Text.{pieces_from, pieces}
use Rattle.format.proofs.Lists.{drop_next}

-- the first piece and the others
pieces_first : (n : ℕ) (xs : List ℕ) → n ≤ length xs → pieces_from n xs ≡ take n xs ∷ pieces (drop n xs)
pieces_first zero [] h = refl
pieces_first zero (c ∷ xs) h = refl
pieces_first (suc n) [] h = absurd (omega arith)
pieces_first (suc n) (x ∷ xs) h = ap (cons_first x) (pieces_first n xs (omega arith))

pub pieces_at : (p : List ℕ) (j n : ℕ) → n ≡ get_or p j 0 → j + 1 + n ≤ length p → pieces (drop j p) ≡ take n (drop (j + 1) p) ∷ pieces (drop (j + 1 + n) p)
pieces_at p j n q h =
    ap pieces (drop_next p j (omega arith))
    ∙ ap (λ k. pieces_from k (drop (j + 1) p)) (sym q)
    ∙ pieces_first n (drop (j + 1) p) (omega (arith, length-drop (j + 1) p))
    ∙ ap (λ xs. take n (drop (j + 1) p) ∷ pieces xs) (drop-drop n (j + 1) p)

-- there is a piece
first_kept : (x : ℕ) (ts : List (List ℕ)) → length (cons_first x ts) ≡ length ts
first_kept x [] = refl
first_kept x (t ∷ ts) = refl

pub pieces_some : (n : ℕ) (xs : List ℕ) → 1 ≤ length (pieces_from n xs)
pieces_some zero [] = omega arith
pieces_some (suc n) [] = omega arith
pieces_some zero (c ∷ xs) = omega arith
pieces_some (suc n) (x ∷ xs) = omega (arith, first_kept x (pieces_from n xs), pieces_some n xs)
