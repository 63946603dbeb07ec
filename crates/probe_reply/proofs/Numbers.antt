-- Laws of the entries of a catalogue, from octets to numbers.
use Rattle.std.proofs.Common.{◌≡◌, ℕ, zero, suc, ◌+◌, ◌*◌, ◌/◌, ◌<◌, min, List, [], ◌∷◌, ◌++◌, length, take, drop, arith, refl, ap, ◌∙◌, add-one}
use lib.ListN.{set}
use lib.Seq.{take-suc-set, drop-drop}
use Rattle.catalogue.specs.Entries.{entry_at, entries_at}
use Rattle.probe_reply.specs.Entries.{entry_of, entries_from, entries_in}

-- an entry is its first 8 octets
first_eight : (xs : List ℕ) → entry_of (take 8 xs) ≡ entry_of xs
first_eight [] = refl
first_eight (a ∷ []) = refl
first_eight (a ∷ b ∷ []) = refl
first_eight (a ∷ b ∷ c ∷ []) = refl
first_eight (a ∷ b ∷ c ∷ d ∷ []) = refl
first_eight (a ∷ b ∷ c ∷ d ∷ e ∷ []) = refl
first_eight (a ∷ b ∷ c ∷ d ∷ e ∷ f ∷ []) = refl
first_eight (a ∷ b ∷ c ∷ d ∷ e ∷ f ∷ g ∷ []) = refl
first_eight (a ∷ b ∷ c ∷ d ∷ e ∷ f ∷ g ∷ h ∷ xs) = refl

-- one entry more
at_last : (w : ℕ) (ws : List ℕ) → entries_at (ws ++ w ∷ []) ≡ entries_at ws ++ entry_at w ∷ []
at_last w [] = refl
at_last w (v ∷ ws) = ap (λ es. entry_at v ∷ es) (at_last w ws)

from_last : (n : ℕ) (xs : List ℕ) → entries_from (suc n) xs ≡ entries_from n xs ++ entry_of (drop (n * 8) xs) ∷ []
from_last zero xs = refl
from_last (suc n) xs =
    let q : 8 + n * 8 ≡ suc n * 8 = omega arith in
    ap (λ es. entry_of xs ∷ es) (from_last n (drop 8 xs) ∙ ap (λ ys. entries_from n (drop 8 xs) ++ entry_of ys ∷ []) (drop-drop (n * 8) 8 xs ∙ ap (λ k. drop k xs) q))

pub next_entry : (xs raw : List ℕ) (i w : ℕ) → i < length raw → entries_at (take i raw) ≡ entries_from i xs → entry_at w ≡ entry_of (take 8 (drop (i * 8) xs)) → entries_at (take (i + 1) (set raw i w)) ≡ entries_from (i + 1) xs
next_entry xs raw i w h e q = rw (add-one, take-suc-set raw i w h, at_last w (take i raw), e, q, first_eight (drop (i * 8) xs), from_last i xs)

-- the first of them
front : (k n r : ℕ) (xs : List ℕ) → r ≡ min n k → entries_from r xs ≡ take k (entries_from n xs)
front zero n zero xs e = refl
front (suc k) zero zero xs e = refl
front (suc k) (suc n) zero xs e = absurd (omega arith)
front zero n (suc r) xs e = absurd (omega arith)
front (suc k) zero (suc r) xs e = absurd (omega arith)
front (suc k) (suc n) (suc r) xs e = ap (λ es. entry_of xs ∷ es) (front k n r (drop 8 xs) (omega arith))

pub all_entries : (xs raw : List ℕ) (r : ℕ) → r ≡ min (length xs / 8) 513 → entries_at (take r raw) ≡ entries_from r xs → entries_at (take r raw) ≡ take 513 (entries_in xs)
all_entries xs raw r h e = e ∙ front 513 (length xs / 8) r xs h
