-- Entries of parallel lists.
use Prim.Native.Nat.{ℕ, zero, suc, ◌<◌, min}
use mathlib.Core.Path.{◌≡◌, refl}
use mathlib.Core.List.{List, [], ◌∷◌}
use native.Mathlib.Omega.{arith}
use lib.ListN.{length, get_or}
use Rattle.catalogue_pack.specs.Packed.{entry_of, parallel}
use Rattle.catalogue_pack.proofs.Rows.{no_entry}

pub parallel_count : (ns ss zs : List ℕ) → length (parallel ns ss zs) ≡ min (min (length ns) (length ss)) (length zs)
parallel_count [] ss zs = omega arith
parallel_count (n ∷ ns) [] zs = omega arith
parallel_count (n ∷ ns) (s ∷ ss) [] = omega arith
parallel_count (n ∷ ns) (s ∷ ss) (z ∷ zs) = omega (arith, parallel_count ns ss zs)

pub parallel_at : (ns ss zs : List ℕ) (i : ℕ) → i < length ns → i < length ss → i < length zs → get_or (parallel ns ss zs) i no_entry ≡ entry_of (get_or ns i 0) (get_or ss i 0) (get_or zs i 0)
parallel_at [] ss zs i a b c = absurd (omega arith)
parallel_at (n ∷ ns) [] zs i a b c = absurd (omega arith)
parallel_at (n ∷ ns) (s ∷ ss) [] i a b c = absurd (omega arith)
parallel_at (n ∷ ns) (s ∷ ss) (z ∷ zs) zero a b c = refl
parallel_at (n ∷ ns) (s ∷ ss) (z ∷ zs) (suc i) a b c = parallel_at ns ss zs i (omega arith) (omega arith) (omega arith)
