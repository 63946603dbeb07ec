-- The parts of an address are read as the definitions say.
use Prim.Native.Nat.{ℕ, ◌<◌}
use mathlib.Core.Path.{◌≡◌, refl, ap, ◌∙◌}
use mathlib.Core.Bool.{Bool, true, false}
use mathlib.Core.List.{List, [], ◌∷◌, ◌++◌, map}
use Rattle.std.specs.Prelude.{Option, None, Some}
use native.Mathlib.Nat.{mod-eq_of_lt}
use lib.Dec.{eqb}
use lib.ListN.{length, length-map}
use Rattle.format.specs.Lists.{◌>>=◌, provided, cons_both, each_of, exactly, flat}
use Rattle.format.specs.Octets.{Below, split_on}
use Rattle.format.specs.Digits.{digits}
use Rattle.format.specs.Hex.{hex_pair}
use Rattle.format.specs.Eui.{read_eui}
use Rattle.format.specs.Address.{small_number, group_of, read_a, group_octets, read_aa}
use Rattle.address.specs.declared.part.PartForm.TheVariants.{Pair, Small, Group}
use Rattle.address.specs.Part.{octets_of, piece_of, joined, parts_by, parts_of}
use Rattle.address.proofs.Numbers.{cons_some, pair_octet, small_octet}

module _ (f : List ℕ → Option ℕ) where
  each_octets : (w : ℕ) (ts : List (List ℕ)) → each_of (λ t. octets_of w (f t)) ts ≡ (each_of f ts >>= λ xs. Some (map (digits 256 w) xs))
  each_octets w [] = refl
  each_octets w (t ∷ ts) = ap (cons_both (octets_of w (f t))) (each_octets w ts) ∙ by (f t) (each_of f ts)
    where
      by : (o : Option ℕ) (p : Option (List ℕ)) → cons_both (octets_of w o) (p >>= λ xs. Some (map (digits 256 w) xs)) ≡ (cons_both o p >>= λ xs. Some (map (digits 256 w) xs))
      by None p = refl
      by (Some x) None = refl
      by (Some x) (Some xs) = refl

  joined_octets : (w k : ℕ) (ts : List (List ℕ)) → joined k (each_of (λ t. octets_of w (f t)) ts) ≡ (exactly k (each_of f ts) >>= λ xs. Some (flat (map (digits 256 w) xs)))
  joined_octets w k ts = ap (joined k) (each_octets w ts) ∙ by (each_of f ts)
    where
      on : (b : Bool) (xs : List ℕ) → provided b (flat (map (digits 256 w) xs)) ≡ (provided b xs >>= λ xs. Some (flat (map (digits 256 w) xs)))
      on true xs = refl
      on false xs = refl

      by : (o : Option (List ℕ)) → joined k (o >>= λ xs. Some (map (digits 256 w) xs)) ≡ (exactly k o >>= λ xs. Some (flat (map (digits 256 w) xs)))
      by None = refl
      by (Some xs) = ap (λ n. provided (eqb n k) (flat (map (digits 256 w) xs))) (length-map xs (digits 256 w)) ∙ on (eqb (length xs) k) xs

  -- each number is an octet
  module _ (h : (t : List ℕ) (v : ℕ) → f t ≡ Some v → v < 256) where
    pub each_octet : (ts : List (List ℕ)) (xs : List ℕ) → each_of f ts ≡ Some xs → Below 256 xs
    each_octet [] xs e = let q : [] ≡ xs = cc in rw (← q) tt
    each_octet (t ∷ ts) xs e = let (x, ys, a, b, q) = cons_some (f t) (each_of f ts) xs e in rw (← q) (h t x a, each_octet ts ys b)

    flat_octets : (xs : List ℕ) → Below 256 xs → flat (map (digits 256 1) xs) ≡ xs
    flat_octets [] b = refl
    flat_octets (x ∷ xs) b = rw (mod-eq_of_lt b.0, flat_octets xs b.1)

    one_octet : (k : ℕ) (ts : List (List ℕ)) → joined k (each_of (λ t. octets_of 1 (f t)) ts) ≡ exactly k (each_of f ts)
    one_octet k ts = joined_octets 1 k ts ∙ by (each_of f ts) refl
      where
        on : (b : Bool) (xs : List ℕ) → Below 256 xs → (provided b xs >>= λ xs. Some (flat (map (digits 256 1) xs))) ≡ provided b xs
        on true xs l = ap Some (flat_octets xs l)
        on false xs l = refl

        by : (o : Option (List ℕ)) → each_of f ts ≡ o → (exactly k o >>= λ xs. Some (flat (map (digits 256 1) xs))) ≡ exactly k o
        by None e = refl
        by (Some xs) e = on (eqb (length xs) k) xs (each_octet ts xs e)

flat_groups : (gs : List ℕ) → flat (map (digits 256 2) gs) ≡ group_octets gs
flat_groups [] = refl
flat_groups (g ∷ gs) = ap (λ l. digits 256 2 g ++ l) (flat_groups gs)

pub eui_parts : (w : ℕ) (t : List ℕ) → parts_of Pair w t ≡ read_eui w t
unfolding parts_by piece_of
eui_parts w t = one_octet hex_pair pair_octet w (split_on 45 t)

pub a_parts : (t : List ℕ) → parts_of Small 4 t ≡ read_a t
unfolding parts_by piece_of
a_parts t = one_octet small_number small_octet 4 (split_on 46 t)

pub aa_parts : (t : List ℕ) → parts_of Group 4 t ≡ read_aa t
unfolding parts_by piece_of
aa_parts t = joined_octets group_of 2 4 (split_on 58 t) ∙ by (exactly 4 (each_of group_of (split_on 58 t)))
  where
    by : (o : Option (List ℕ)) → (o >>= λ gs. Some (flat (map (digits 256 2) gs))) ≡ (o >>= λ gs. Some (group_octets gs))
    by None = refl
    by (Some gs) = ap Some (flat_groups gs)
