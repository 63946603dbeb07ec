-- X and X[C]: read back, bounded, accepted.
use Prim.Native.Nat.{ℕ, ◌+◌, ◌*◌, ◌/◌, ◌%◌, ◌≤◌, ◌<◌}
use mathlib.Core.Path.{◌≡◌, refl, ap, ◌∙◌, ap₂}
use mathlib.Core.Bool.{Bool, true, false, cond, ◌&&◌}
use mathlib.Core.List.{List, [], ◌∷◌, ◌++◌, map}
use Rattle.std.specs.Prelude.{Option, Some}
use native.Mathlib.Omega.{arith}
use lib.ListN.{length, drop, length-drop}
use Rattle.format.specs.Lists.{◌>>=◌, cons_both}
use lib.Dec.{eqb}
use Rattle.format.specs.Octets.{Octets, ascii, in_range, same_octets}
use Rattle.format.specs.Wire.{count, took, taken}
use Rattle.format.specs.Field.{hex, hexc}
use Rattle.format.specs.Digits.{digits, number, upper_digit, digit_value}
use Rattle.format.specs.Token.{between, scanned}
use Rattle.format.specs.Text.{with_count, counted}
use Rattle.format.specs.Hex.{hex_text, hex_pair, from_hex, counted_hex_text, read_counted_hex}
use Rattle.format.specs.Catalogue.{TypeName}
use Rattle.format.specs.Run.{shown, got, one_bare, read_field}
use Rattle.format.proofs.Lists.{bind_some, provided_some, longer}
use Rattle.format.proofs.Digits.{digits_below, number_digits, chars_back}
use Rattle.format.proofs.Wire.{end_some, takes_count}
use Rattle.format.proofs.Token.{Parted, Plainly, chars_plain, plain_append}
use Rattle.format.proofs.Field.{Back, FieldLaws, bare_back, all_back, bare_accepted, all_accepted, counted_accepted, Counted, is_counted, counted_octets, counted_some}

pair_reads : (x : ℕ) → x < 256 → hex_pair (map upper_digit (digits 16 2 x)) ≡ Some x
pair_reads x h = ap (λ (o : Option (List ℕ)). o >>= λ ds. Some (number 16 ds)) (chars_back upper_digit (digit_value 16) 16 refl (digits 16 2 x) (digits_below 16 2 x (omega arith))) ∙ ap Some (number_digits 16 2 x (omega arith) h)

hex_reads : (p : List ℕ) → Octets p → from_hex (hex_text p) ≡ Some p
hex_reads [] b = refl
hex_reads (x ∷ p) b = ap₂ cons_both (pair_reads x b.0) (hex_reads p b.1)

hex_plain : (p : List ℕ) → Plainly (hex_text p)
hex_plain [] = tt
hex_plain (x ∷ p) = plain_append (map upper_digit (digits 16 2 x)) (hex_text p) (chars_plain upper_digit 16 refl (digits 16 2 x) (digits_below 16 2 x (omega arith))) (hex_plain p)

pub hex_length : (p : List ℕ) → length (hex_text p) ≡ 2 * length p
hex_length [] = refl
hex_length (x ∷ p) = omega (arith, hex_length p)

pub hex_laws : (c : List TypeName) → FieldLaws c hex
unfolding Back shown read_field
hex_laws c = record {
  back = λ o p b e r q t. let n = end_some p e in all_back from_hex (hex_text p) p r (omega (arith, hex_length p)) (hex_plain p) (hex_reads p b) n (t refl);
  bound = λ p b e. omega (arith, hex_length p);
  accepted = λ o n ts us p e. all_accepted from_hex ts us p e;
}

-- the text of counted octets
counted_long : (xs : List ℕ) → 1 ≤ length (counted_hex_text xs)
counted_long [] = omega arith
counted_long (x ∷ xs) = omega arith

counted_plain : (xs : List ℕ) → Plainly (counted_hex_text xs)
counted_plain [] = (refl, tt)
counted_plain (x ∷ xs) = hex_plain (x ∷ xs)

counted_length : (xs : List ℕ) → length (counted_hex_text xs) ≤ 2 * length xs + 1
counted_length [] = omega arith
counted_length (x ∷ xs) = omega (arith, hex_length (x ∷ xs))

counted_reads : (xs : List ℕ) → Octets xs → length xs ≤ 255 → read_counted_hex (counted_hex_text xs) ≡ Some (with_count xs)
counted_reads [] b l = refl
counted_reads (x ∷ xs) b l = rw (longer _ (upper_digit (x / 16 % 16)) (upper_digit (x % 16)) (hex_text xs), hex_reads (x ∷ xs) b) (counted_some 1 (x ∷ xs) (omega arith) l)

counted_value : (t p : List ℕ) → read_counted_hex t ≡ Some p → taken (count 0) p ≡ took (length p)
counted_value t p e = by (same_octets t (counted_hex_text [])) e
  where
    by : (c : Bool) → cond c (Some (with_count [])) (from_hex t >>= counted 1) ≡ Some p → taken (count 0) p ≡ took (length p)
    by true e = counted_accepted 0 [] p e
    by false e =
        let (u, a, b) = bind_some (from_hex t) (counted 1) p e in
        let (c, d) = provided_some (in_range 1 255 (length u)) (with_count u) p b in
        rw (← d) (takes_count 0 u (omega arith))

pub hexc_laws : (c : List TypeName) → FieldLaws c hexc
unfolding Back shown read_field
hexc_laws c = record {
  back = λ o p b e r q t. back p r (counted_octets 0 p e) b q;
  bound = λ p b e. omega (arith, counted_length (drop 1 p), length-drop 1 p);
  accepted = λ o n ts us p e. bare_accepted (count 0) read_counted_hex counted_value ts us p e;
}
  where
    back : (p r : List ℕ) → Counted 0 p → Octets p → Parted r → one_bare read_counted_hex (scanned between (counted_hex_text (drop 1 p) ++ r)) ≡ got p (scanned between r)
    back p r (is_counted xs c l) b q =
        let d : Octets (with_count xs) = rw c at b in
        rw c (bare_back read_counted_hex (counted_hex_text xs) (with_count xs) r (counted_long xs) (counted_plain xs) (counted_reads xs d.1 (omega (arith, d.0))) q)
