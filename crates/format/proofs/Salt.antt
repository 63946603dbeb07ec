-- What request 1 of document 02 says of X[C].
use Prim.Native.Nat.{ℕ}
use mathlib.Core.Path.{◌≡◌, refl, ap}
use mathlib.Core.Bool.{false}
use mathlib.Core.List.{List, [], ◌∷◌, ◌++◌}
use Rattle.std.specs.Prelude.{Option, None, Some}
use lib.ListN.{drop}
use Rattle.format.specs.Lists.{◌>>=◌, cons_both, null}
use Rattle.format.specs.Octets.{ascii, same_octets}
use Rattle.format.specs.Wire.{taken}
use Rattle.format.specs.Digits.{digit_value, number}
use Rattle.format.specs.Hex.{hex_pair, from_hex, counted_hex_text}
use Rattle.format.specs.Run.{shown, read_field}
use Rattle.format.specs.Salt.{NoSalt}
use Rattle.format.proofs.Lists.{longer}

-- `-` is no digit, and one that is none leaves no value
none_after : (o : Option ℕ) (p : Option (List ℕ)) → p ≡ None → cons_both o p ≡ None
none_after None p e = refl
none_after (Some x) p e = rw e refl

no_pair : (x : ℕ) → hex_pair (x ∷ ascii "-") ≡ None
no_pair x = ap (λ (p : Option (List ℕ)). p >>= λ ds. Some (number 16 ds)) (none_after (digit_value 16 x) None refl)

no_hex : (a b : List ℕ) → from_hex (a ++ ascii "-" ++ b) ≡ None
no_hex [] [] = refl
no_hex [] (y ∷ b) = refl
no_hex (x ∷ []) b = rw (no_pair x) refl
no_hex (x ∷ y ∷ a) b = none_after (hex_pair (x ∷ y ∷ [])) (from_hex (a ++ ascii "-" ++ b)) (no_hex a b)

-- `-` is alone only where nothing is around it
not_alone : (a b : List ℕ) → null (a ++ b) ≡ false → same_octets (a ++ ascii "-" ++ b) (ascii "-") ≡ false
not_alone [] [] h = h
not_alone [] (y ∷ b) h = refl
not_alone (x ∷ []) b h = longer 45 x 45 b
not_alone (x ∷ y ∷ a) b h = longer 45 x y (a ++ ascii "-" ++ b)

some_digits : (xs : List ℕ) → null (counted_hex_text xs) ≡ false
some_digits [] = refl
some_digits (x ∷ xs) = refl

pub no_salt : NoSalt
unfolding taken shown read_field
no_salt = record {
  accepted = λ xs. refl;
  prints = λ c. refl;
  reads = λ c o ts. refl;
  beside = λ c o ts a b h. rw (not_alone a b h, no_hex a b) refl;
  base32 = λ xs. refl;
  some_text = λ c p. some_digits (drop 1 p);
}
