-- Laws of hex digits from the table, of a text from a table that is written in parts, and of `-` for none.
use Prim.Native.Nat.{ℕ, suc, ◌+◌, ◌*◌, ◌/◌, ◌%◌, ◌<◌, ◌≤◌}
use mathlib.Core.Path.{◌≡◌, refl, sym, ap, ◌∙◌}
use mathlib.Core.List.{List, [], ◌∷◌, ◌++◌, map, append_assoc}
use native.Mathlib.Omega.{arith}
use lib.ListN.{length, get_or, take, drop, take-append-drop, length-take}
use lib.Seq.{take_all}
use Rattle.format.specs.Digits.{digits, upper_digit}
use Rattle.format.specs.Octets.{same_octets}
use Rattle.format.specs.Hex.{hex_text, counted_hex_text}
use Rattle.format.proofs.Lists.{octets_same}
use Rattle.format.proofs.Finite.{at_each}
use Rattle.buffer.proofs.Laws.{next}
use Rattle.digits.proofs.Bits.{flat_append}
use Rattle.base.specs.Hex.{from_table, table_text, hex_table, OldTwo}

-- by one test that antt computes over all octets
pub old_two : OldTwo
old_two x h =
    octets_same (from_table hex_table x) (map upper_digit (digits 16 2 x))
    (at_each (λ y. same_octets (from_table hex_table y) (map upper_digit (digits 16 2 y))) 256 refl x h)

-- so the table gives the old text of octets
pub table_hex : (xs : List ℕ) → ((k : ℕ) → get_or xs k 0 < 256) → table_text hex_table xs ≡ hex_text xs
table_hex [] h = refl
table_hex (x ∷ xs) h =
    ap (λ u. u ++ table_text hex_table xs) (old_two x (h 0)) ∙ ap (λ u. map upper_digit (digits 16 2 x) ++ u) (table_hex xs (λ k. h (suc k)))

-- a text by any table
pub table_length : (t xs : List ℕ) → length (table_text t xs) ≡ 2 * length xs
table_length t [] = refl
table_length t (x ∷ xs) = omega (arith, table_length t xs)

module _ (t s : List ℕ) (c : ℕ) where
  pub table_count : c ≤ length s → length (table_text t (take c s)) ≡ 2 * c
  table_count h = omega (arith, table_length t (take c s), length-take c s)

  -- all octets are among the first c
  pub table_all : length s ≤ c → table_text t (take c s) ≡ table_text t s
  table_all h = ap (table_text t) (take_all c s h)

  -- the first c octets, the first digit of the next one, and the rest
  pub table_parts : c < length s
      → (table_text t (take c s) ++ get_or t (get_or s c 0 / 16) 0 ∷ []) ++ (get_or t (get_or s c 0 % 16) 0 ∷ table_text t (drop (c + 1) s)) ≡ table_text t s
  table_parts h =
      append_assoc (table_text t (take c s)) (get_or t (get_or s c 0 / 16) 0 ∷ []) (get_or t (get_or s c 0 % 16) 0 ∷ table_text t (drop (c + 1) s))
      ∙ ap (λ u. table_text t (take c s) ++ table_text t u) (sym (next s c h))
      ∙ sym (flat_append (from_table t) (take c s) (drop c s))
      ∙ ap (table_text t) (take-append-drop c s)

-- octets, counted
pub some_octets : (s : List ℕ) → 0 < length s → hex_text s ≡ counted_hex_text s
some_octets [] h = absurd (omega arith)
some_octets (x ∷ s) h = refl
