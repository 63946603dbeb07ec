-- The alphabet of digits and letters gives the digits of the definitions.
use Prim.Native.Nat.{ℕ, ◌+◌, ◌-◌, ◌%◌, ◌<◌}
use mathlib.Core.Path.{◌≡◌, refl, sym, ap, subst, ◌∙◌}
use mathlib.Core.Bool.{Bool, true, false, not, cond}
use mathlib.Core.List.{List, [], ◌∷◌, ◌++◌}
use Rattle.std.specs.Prelude.{Option, None, Some}
use native.Mathlib.Omega.{arith}
use lib.Dec.{ltb}
use borrow.Author.Tests.{ltb-true}
use Rattle.format.specs.Lists.{◌>>=◌, provided, cons_both, each_of}
use Rattle.format.specs.Octets.{Octets, blank, digit, letter, lowered}
use Rattle.format.specs.Digits.{digit_value, number}
use Rattle.format.specs.Text.{counted}
use Rattle.format.specs.Base.{from_digits}
use Rattle.format.specs.Hex.{hex_pair, from_hex}
use Rattle.format.specs.Base.{read_base32}
use Rattle.format.proofs.Lists.{not_true}
use Rattle.format.proofs.Finite.{at_each, all_same}
use Rattle.buffer.specs.Writing.{after}
use Rattle.base_group.specs.Group.{char_value, left_out, without, octets_by, letters, counted_by}
use Rattle.base_group.proofs.Bits.{group_octets_lem}

-- octets without some of them are octets, and so is a front of octets
pub without_octets : (f : ℕ → Bool) (s : List ℕ) → Octets s → Octets (without f s)
without_octets f [] o = tt
without_octets f (x ∷ s) o = by (f x) (without_octets f s o.1)
  where
    by : (b : Bool) → Octets (without f s) → Octets (cond b (without f s) (x ∷ without f s))
    by true h = h
    by false h = (o.0, h)

pub octets_front : (xs ys : List ℕ) → Octets (xs ++ ys) → Octets xs
octets_front [] ys o = tt
octets_front (x ∷ xs) ys o = (o.0, octets_front xs ys o.1)

-- two readers that agree on octets
pub each_same : (f g : ℕ → Option ℕ) → ((x : ℕ) → x < 256 → f x ≡ g x) → (s : List ℕ) → Octets s → each_of f s ≡ each_of g s
each_same f g h [] o = refl
each_same f g h (x ∷ s) o = rw (h x o.0, each_same f g h s o.1)

abbrev pub there : Option ℕ → Bool
there None = false
there (Some x) = true

pub no_digit : (o : Option ℕ) → there o ≡ false → o ≡ None
no_digit None h = refl
no_digit (Some x) h = cc

abbrev pub same_bool : Bool → Bool → Bool
same_bool true b = b
same_bool false b = not b

pub same_bool_lem : (a b : Bool) → same_bool a b ≡ true → a ≡ b
same_bool_lem true true h = refl
same_bool_lem true false h = cc
same_bool_lem false true h = cc
same_bool_lem false false h = refl

-- an alphabet in which 64 stands for a blank
module _ (a : List ℕ) (left : (x : ℕ) → x < 256 → left_out a 64 x ≡ blank x) where
  pub without_blanks : (s : List ℕ) → Octets s → without (left_out a 64) s ≡ without blank s
  without_blanks [] o = refl
  without_blanks (x ∷ s) o = rw (left x o.0, without_blanks s o.1)

  pub each_blank : (base : ℕ) (v : ℕ → Option ℕ) → ((x : ℕ) → x < 256 → char_value a base x ≡ v x) → (s : List ℕ) → Octets s → each_of (char_value a base) (without (left_out a 64) s) ≡ each_of v (without blank s)
  each_blank base v d [] o = refl
  each_blank base v d (x ∷ s) o = rw (left x o.0) (by (blank x) (d x o.0) (each_blank base v d s o.1))
    where
      by : (b : Bool) → char_value a base x ≡ v x → each_of (char_value a base) (without (left_out a 64) s) ≡ each_of v (without blank s)
          → each_of (char_value a base) (cond b (without (left_out a 64) s) (x ∷ without (left_out a 64) s)) ≡ each_of v (cond b (without blank s) (x ∷ without blank s))
      by true e ih = ih
      by false e ih = rw (e, ih)

pub letters16 : (x : ℕ) → x < 256 → char_value letters 16 x ≡ digit_value 16 x
unfolding letters
letters16 = all_same 256 (char_value letters 16) (digit_value 16) refl

letters32 : (x : ℕ) → x < 256 → char_value letters 32 x ≡ digit_value 32 x
unfolding letters
letters32 = all_same 256 (char_value letters 32) (digit_value 32) refl

all_kept : (x : ℕ) → x < 256 → left_out letters 100 x ≡ false
unfolding letters
all_kept x l = not_true (left_out letters 100 x) (at_each (λ x. not (left_out letters 100 x)) 256 refl x l)

each_by : (f g : ℕ → Option ℕ) → ((x : ℕ) → x < 256 → f x ≡ g x) → (s : List ℕ) → Octets s → each_of f (without (left_out letters 100) s) ≡ each_of g s
each_by f g h [] o = refl
each_by f g h (x ∷ s) o = rw (all_kept x o.0, h x o.0, each_by f g h s o.1)

-- pairs of hex digits as octets
digit_small : (x d : ℕ) → digit_value 16 x ≡ Some d → d < 16
digit_small x d e = by (digit x) (letter x) (x - 48) (lowered x - 97 + 10) e
  where
    small : (y : ℕ) → provided (ltb y 16) y ≡ Some d → d < 16
    small y q = of (ltb y 16) refl q
      where
        of : (b : Bool) → ltb y 16 ≡ b → provided b y ≡ Some d → d < 16
        of true p q = let z : y ≡ d = cc in subst (λ k. k < 16) z (ltb-true y 16 p)
        of false p q = let z : ◌≡◌ {A = ℕ} 0 1 = cc in absurd (omega arith)

    by : (a b : Bool) (y z : ℕ) → cond a (provided (ltb y 16) y) (cond b (provided (ltb z 16) z) None) ≡ Some d → d < 16
    by true b y z q = small y q
    by false true y z q = small z q
    by false false y z q = let z : ◌≡◌ {A = ℕ} 0 1 = cc in absurd (omega arith)

pair : (p q : Option ℕ) (o : Option (List ℕ)) → ((x y : ℕ) (ds : List ℕ) → p ≡ Some x → q ≡ Some y → from_digits 4 (x ∷ y ∷ ds) ≡ after (number 16 (x ∷ y ∷ []) ∷ []) (from_digits 4 ds))
    → cons_both (cons_both p (cons_both q (Some [])) >>= λ ds. Some (number 16 ds)) (o >>= from_digits 4) ≡ (cons_both p (cons_both q o) >>= from_digits 4)
pair None q o h = refl
pair (Some x) None o h = refl
pair (Some x) (Some y) None h = refl
pair (Some x) (Some y) (Some ds) h = sym (h x y ds refl refl ∙ one (from_digits 4 ds))
  where
    one : (o : Option (List ℕ)) → after (number 16 (x ∷ y ∷ []) ∷ []) o ≡ cons_both (Some (number 16 (x ∷ y ∷ []))) o
    one None = refl
    one (Some zs) = refl

pub hex_digits : (s : List ℕ) → from_hex s ≡ (each_of (digit_value 16) s >>= from_digits 4)
hex_digits [] = refl
hex_digits (a ∷ []) = by (digit_value 16 a) (λ d e. digit_small a d e)
  where
    by : (o : Option ℕ) → ((d : ℕ) → digit_value 16 a ≡ Some d → d < 16) → None ≡ (cons_both o (Some []) >>= from_digits 4)
    by None h = refl
    by (Some d) h = refl
hex_digits (a ∷ b ∷ s) =
    ap (cons_both (hex_pair (a ∷ b ∷ []))) (hex_digits s)
    ∙ pair (digit_value 16 a) (digit_value 16 b) (each_of (digit_value 16) s) (λ x y ds p q. two x y ds (digit_small a x p) (digit_small b y q))
  where
    two : (x y : ℕ) (ds : List ℕ) → x < 16 → y < 16 → from_digits 4 (x ∷ y ∷ ds) ≡ after (number 16 (x ∷ y ∷ []) ∷ []) (from_digits 4 ds)
    two x y ds h l =
        let z : number 16 (x ∷ y ∷ []) % 256 ≡ number 16 (x ∷ y ∷ []) = omega arith in
        group_octets_lem 4 1 (x ∷ y ∷ []) ds (h, (l, tt)) (omega arith) ∙ ap (λ k. after (k ∷ []) (from_digits 4 ds)) z

-- the same if nothing is left out
pub octets_hex : (s : List ℕ) → Octets s → octets_by letters 100 4 s ≡ from_hex s
octets_hex s o = ap (λ x. x >>= from_digits 4) (each_by (char_value letters 16) (digit_value 16) letters16 s o) ∙ sym (hex_digits s)

pub counted_hex : (s : List ℕ) → Octets s → counted_by 4 s ≡ (from_hex s >>= counted 1)
counted_hex s o = ap (λ x. x >>= counted 1) (octets_hex s o)

pub bind_bind : {A B C : Type 0} (o : Option A) (f : A → Option B) (g : B → Option C) → (o >>= f >>= g) ≡ (o >>= λ x. f x >>= g)
bind_bind None f g = refl
bind_bind (Some x) f g = refl

pub counted_base32 : (s : List ℕ) → Octets s → counted_by 5 s ≡ read_base32 s
counted_base32 s o = ap (λ x. x >>= from_digits 5 >>= counted 1) (each_by (char_value letters 32) (digit_value 32) letters32 s o) ∙ bind_bind (each_of (digit_value 32) s) (from_digits 5) (counted 1)
