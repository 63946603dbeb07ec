-- Names that are the same have the same number, so names with different numbers differ.
use Prim.Native.Nat.{ℕ, zero, suc, ◌+◌, ◌-◌, ◌*◌, ◌%◌, ◌≤◌, ◌<◌}
use mathlib.Core.Path.{◌≡◌, refl, sym, ap, ◌∙◌}
use mathlib.Core.Bool.{Bool, true, false, true≢false}
use mathlib.Core.List.{List, [], ◌∷◌}
use lib.ListN.{length, get_or, set}
use lib.Seq.{slice, get_or-set_same, get_or-set_other}
use lib.Dec.{eqb}
use borrow.Author.Tests.{eqb-true}
use Rattle.format.specs.Lists.{any_of}
use Rattle.format.specs.Octets.{name_octet}
use Rattle.format.specs.Field.{Part}
use Rattle.format.proofs.Lists.{and_left, and_right}
use Rattle.octets.specs.Octets.{part_in, front_end}
use Rattle.stanza_words.specs.Qualifiers.{pieces_in, same_by, name_in, twice_in}
use Rattle.stanza_distinct.specs.Distinct.{folded, bucket_of}
use Rattle.stanza_words.proofs.Laws.{same_next, not_comma, last_piece, next_piece, name_in_lem, twice_on, twice_last}

module _ (g : Bool) where
  -- names that are the same have the same length, and the same octet at each place
  same_size : (xs ys : List ℕ) → same_by g xs ys ≡ true → length xs ≡ length ys
  same_size xs ys h = by g xs ys h
    where
      by : (g : Bool) (xs ys : List ℕ) → same_by g xs ys ≡ true → length xs ≡ length ys
      by g [] [] h = refl
      by true [] (y ∷ ys) h = cc
      by false [] (y ∷ ys) h = cc
      by true (x ∷ xs) [] h = cc
      by false (x ∷ xs) [] h = cc
      by g (x ∷ xs) (y ∷ ys) h = ap suc (by g xs ys (and_right (eqb (folded g x) (folded g y)) (same_by g xs ys) (sym (same_next g x y xs ys) ∙ h)))

  same_at : (i : ℕ) (xs ys : List ℕ) → same_by g xs ys ≡ true → folded g (get_or xs i 0) ≡ folded g (get_or ys i 0)
  same_at i xs ys h = by g i xs ys h
    where
      by : (g : Bool) (i : ℕ) (xs ys : List ℕ) → same_by g xs ys ≡ true → folded g (get_or xs i 0) ≡ folded g (get_or ys i 0)
      by g i [] [] h = refl
      by true i [] (y ∷ ys) h = cc
      by false i [] (y ∷ ys) h = cc
      by true i (x ∷ xs) [] h = cc
      by false i (x ∷ xs) [] h = cc
      by g zero (x ∷ xs) (y ∷ ys) h = eqb-true (folded g x) (folded g y) (and_left (eqb (folded g x) (folded g y)) (same_by g xs ys) (sym (same_next g x y xs ys) ∙ h))
      by g (suc i) (x ∷ xs) (y ∷ ys) h = by g i xs ys (and_right (eqb (folded g x) (folded g y)) (same_by g xs ys) (sym (same_next g x y xs ys) ∙ h))

  bucket_same : (x y : List ℕ) → same_by g x y ≡ true → bucket_of g x ≡ bucket_of g y
  bucket_same x y h =
      ap (λ n. ((n % 32 + folded g (get_or x 0 0)) * 8 + folded g (get_or x (n - 1) 0)) % 256) (same_size x y h)
      ∙ ap (λ v. ((length y % 32 + v) * 8 + folded g (get_or x (length y - 1) 0)) % 256) (same_at 0 x y h)
      ∙ ap (λ v. ((length y % 32 + folded g (get_or y 0 0)) * 8 + v) % 256) (same_at (length y - 1) x y h)

  bucket_other : (x y : List ℕ) → (bucket_of g x ≡ bucket_of g y → ⊥) → same_by g x y ≡ false
  bucket_other x y h = by (same_by g x y) refl
    where
      by : (b : Bool) → same_by g x y ≡ b → b ≡ false
      by true e = absurd (h (bucket_same x y e))
      by false e = refl

  -- none of these names has a number that was met before
  abbrev pub Clear : List Bool → List Part → Type 0
  Clear met [] = Unit {0}
  Clear met (p ∷ ps) = (get_or met (bucket_of g (name_in p)) false ≡ false) × Clear met ps

  module _ (met : List Bool) (k : ℕ) (l : k < length met) where
    not_met : (j : ℕ) → get_or (set met k true) j false ≡ false → j ≡ k → ⊥
    not_met j h e = true≢false (sym (get_or-set_same met k true false l) ∙ ap (λ i. get_or (set met k true) i false) (sym e) ∙ h)

    clear_before : (ps : List Part) → Clear (set met k true) ps → Clear met ps
    clear_before [] c = tt
    clear_before (p ∷ ps) c = (sym (get_or-set_other met k (bucket_of g (name_in p)) true false (not_met (bucket_of g (name_in p)) c.0)) ∙ c.0, clear_before ps c.1)

    none_same : (x : List ℕ) → k ≡ bucket_of g x → (ps : List Part) → Clear (set met k true) ps → any_of (λ p. same_by g x (name_in p)) ps ≡ false
    none_same x e [] c = refl
    none_same x e (p ∷ ps) c = rw (bucket_other x (name_in p) (λ q. not_met (bucket_of g (name_in p)) c.0 (sym q ∙ sym e)), none_same x e ps c.1)

  module _ (s : List ℕ) (i b z n : ℕ) (h : i ≤ b) (l : b ≤ length s) (q : z ≡ front_end not_comma s i b) (e : n ≡ front_end name_octet s i z)
      (met : List Bool) (k : ℕ) (d : k ≡ bucket_of g (slice i n s)) (o : get_or met k false ≡ false) where
    unmet : get_or met (bucket_of g (name_in (part_in s i z))) false ≡ false
    unmet = ap (λ t. get_or met (bucket_of g t) false) (name_in_lem s i b z h l q n e) ∙ ap (λ j. get_or met j false) (sym d) ∙ o

    module _ (a : ℕ) (f : Clear met (pieces_in s i b) → twice_in g s i b ≡ false → twice_in g s a b ≡ false) where
      pub apart_last : z ≡ b → twice_in g s a b ≡ false
      apart_last m = f (rw (last_piece s i b z h l q m) (unmet, tt)) (sym (twice_last s i b z h l q g m))

      pub apart_next : (z ≡ b → ⊥) → k < length met → Clear (set met k true) (pieces_in s (z + 1) b) → twice_in g s (z + 1) b ≡ false → twice_in g s a b ≡ false
      apart_next m u c t =
          f (rw (next_piece s i b z h l q m) (unmet, clear_before met k u (pieces_in s (z + 1) b) c))
          (sym (twice_on s i b z h l q g n e m _ refl (none_same met k u (slice i n s) d (pieces_in s (z + 1) b) c)) ∙ t)
