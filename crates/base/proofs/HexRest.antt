-- Hex digits from all tokens that are left.
use Prim.Native.Nat.{ℕ, ◌≤◌, ◌<◌}
use mathlib.Core.Path.{◌≡◌, refl, sym, ap, ◌∙◌}
use mathlib.Core.Bool.{true, false, not, ◌||◌}
use mathlib.Core.List.{List, [], ◌∷◌, ◌++◌}
use Rattle.std.specs.Prelude.{Option, None, Some, Ok}
use native.Mathlib.Omega.{arith}
use native.Mathlib.Decide.{dec_le}
use borrow.Author.Tests.{le-leb, lt-leb}
use Rattle.format.specs.Lists.{◌>>=◌, cons_both}
use Rattle.format.specs.Octets.{Octets, blank}
use Rattle.format.specs.Token.{tokens}
use Rattle.format.specs.Digits.{digit_value}
use Rattle.format.specs.Base.{from_digits}
use Rattle.format.specs.Hex.{hex_pair, from_hex}
use Rattle.format.specs.Run.{no_token, bad_token, joined_bares}
use Rattle.format.proofs.Lists.{implied}
use Rattle.format.proofs.Finite.{at_each}
use Rattle.format.proofs.Token.{plainly}
use Rattle.buffer.specs.Writing.{Values}
use Rattle.base_group.specs.Group.{left_out, without, octets_by, letters}
use Rattle.base.specs.Rest.{Gets}
use Rattle.base_group.proofs.GroupDigits.{each_none}
use Rattle.base_group.proofs.Letters.{there, no_digit, same_bool, same_bool_lem, each_blank, letters16, hex_digits}
use Rattle.base.proofs.Joined.{joined_text, joined_is, text_fault, text_got, nothing_stored}

far : (x : ℕ) → 256 ≤ x → digit_value 16 x ≡ None
far x h = rw (le-leb 48 x (omega arith), lt-leb x 57 (omega arith), le-leb 65 x (omega arith), lt-leb x 90 (omega arith), le-leb 97 x (omega arith), lt-leb x 122 (omega arith))

plain_digit : (x : ℕ) → there (digit_value 16 x) ≡ true → plainly x ≡ true
plain_digit x h = by (dec_le 256 x)
  where
    by : Dec (256 ≤ x) → plainly x ≡ true
    by (yes k) = let q : there None ≡ true = ap there (sym (far x k)) ∙ h in cc
    by (no k) = implied (there (digit_value 16 x)) (plainly x) (at_each (λ y. not (there (digit_value 16 y)) || plainly y) 256 refl x (omega arith)) h

bad_digit : (p : List ℕ) (x : ℕ) (ys : List ℕ) → there (digit_value 16 x) ≡ false → from_hex (p ++ x ∷ ys) ≡ None
bad_digit p x ys h = hex_digits (p ++ x ∷ ys) ∙ ap (λ o. o >>= from_digits 4) (each_none (digit_value 16) p x ys (no_digit (digit_value 16 x) h))

blank_left : (x : ℕ) → x < 256 → left_out letters 64 x ≡ blank x
unfolding letters
blank_left x h = same_bool_lem (left_out letters 64 x) (blank x) (at_each (λ y. same_bool (left_out letters 64 y) (blank y)) 256 refl x h)

some_hex : (xs : List ℕ) → from_hex xs ≡ Some [] → joined_text from_hex xs ≡ no_token
some_hex [] e = refl
some_hex (a ∷ []) e = cc
some_hex (a ∷ b ∷ xs) e = by (hex_pair (a ∷ b ∷ [])) (from_hex xs) e
  where
    by : (p : Option ℕ) (o : Option (List ℕ)) → cons_both p o ≡ Some [] → joined_text from_hex (a ∷ b ∷ xs) ≡ no_token
    by None o q = cc
    by (Some x) None q = cc
    by (Some x) (Some ys) q = cc

module _ (t : List ℕ) (o : Octets t) where
  text : octets_by letters 64 4 t ≡ from_hex (without blank t)
  text = ap (λ x. x >>= from_digits 4) (each_blank letters blank_left 16 (digit_value 16) letters16 t o) ∙ sym (hex_digits (without blank t))

  all : joined_bares from_hex (tokens t) ≡ joined_text from_hex (without blank t)
  all = joined_is from_hex (λ x. there (digit_value 16 x)) plain_digit bad_digit t

  pub hex_fault : octets_by letters 64 4 t ≡ None → joined_bares from_hex (tokens t) ≡ bad_token
  hex_fault e = all ∙ text_fault from_hex (without blank t) refl (sym text ∙ e)

  module _ (o₀ o₁ : List ℕ) (n m : ℕ) (h : Values o₀ o₁ n (Some m) (octets_by letters 64 4 t)) where
    pub hex_missing : m ≤ n → joined_bares from_hex (tokens t) ≡ no_token
    hex_missing l = all ∙ some_hex (without blank t) (sym text ∙ h.1 ∙ ap Some (nothing_stored h.0 n m h.2.count l))

    pub hex_got : n < m → Gets o₀ o₁ n (Ok m) (joined_bares from_hex (tokens t))
    hex_got l = (h.0, all ∙ text_got from_hex (without blank t) h.0 refl (sym text ∙ h.1) (omega (arith, h.2.count)), h.2)
