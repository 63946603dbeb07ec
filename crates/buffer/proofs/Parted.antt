-- Texts with a separator between them, as a loop writes them: the first text, then each later one after a separator.
use Prim.Native.Nat.{ℕ}
use mathlib.Core.Path.{◌≡◌, sym, ap, ◌∙◌}
use mathlib.Core.List.{List, [], ◌∷◌, ◌++◌, map, append-nil, append_assoc}
use Rattle.format.specs.Lists.{flat_map, parted}
use Rattle.buffer.specs.Writing.{Wrote}
use Rattle.buffer.proofs.Laws.{Left, left_piece, wrote_append, wrote_text}

-- each text after a separator
abbrev pub later : {A : Type 0} → List ℕ → (A → List ℕ) → List A → List ℕ
later s f xs = flat_map (λ x. s ++ f x) xs

module _ {A : Type 0} (s : List ℕ) (f : A → List ℕ) where
  pub first_later : (x : A) (xs : List A) → parted s (map f (x ∷ xs)) ≡ f x ++ later s f xs
  first_later x [] = sym (append-nil (f x))
  first_later x (y ∷ xs) = rw (first_later y xs) (simp append_assoc)

  -- the first text is written, and then the later ones
  pub wrote_parted : {o o₁ o₂ : List ℕ} {n m r : ℕ} (ys : List A) (x : A) (xs : List A) → ys ≡ x ∷ xs → Wrote o o₁ n m (f x)
      → Wrote o₁ o₂ m r (later s f xs) → Wrote o o₂ n r (parted s (map f ys))
  wrote_parted ys x xs e v w =
      wrote_text _ _ (sym (ap (λ (l : List A). parted s (map f l)) e ∙ first_later x xs)) (wrote_append v w)

  -- a separator and a later text are written
  pub went_on : {o₀ text o o₁ o₂ : List ℕ} {start n m r : ℕ} (ys : List A) (x : A) (xs : List A) → ys ≡ x ∷ xs
      → Left o₀ start text o n (later s f ys) → Wrote o o₁ n m s → Wrote o₁ o₂ m r (f x) → Left o₀ start text o₂ r (later s f xs)
  went_on {o₂ = o₂} {r = r} ys x xs e l v w = left_piece o₂ r (s ++ f x) (later s f xs) l (ap (later s f) e) (wrote_append v w)
