-- Decimal numbers and integers: read back, bounded, accepted.
use Prim.Native.Nat.{ℕ, zero, suc, ◌/◌, ◌^◌, ◌≤◌, ◌<◌}
use mathlib.Core.Path.{◌≡◌, refl, sym, ap, ◌∙◌}
use mathlib.Core.Bool.{Bool, true, false, not, cond, ◌&&◌, ◌||◌, true≢false}
use mathlib.Core.List.{List, [], ◌∷◌}
use Rattle.std.specs.Prelude.{Option, None, Some}
use native.Mathlib.Omega.{arith}
use native.Mathlib.Nat.{div-lt_iff_lt-mul, pow-suc, pow-zero, zero-mod, pow-le-pow_right}
use lib.ListN.{length, length-map}
use lib.Dec.{leb, ltb, eqb}
use borrow.Author.Tests.{lt-ltb, le-leb, eq-eqb, eqb-true, ltb-true, ltb-false, leb-true, lt-leb, ne_eqb}
use Rattle.format.specs.Lists.{or_else, any_of, all_of, twice}
use Rattle.format.specs.Octets.{Octets, in_range, among, letter, name_octet, lowered, same_word}
use Rattle.format.specs.Wire.{short, took, taken}
use Rattle.format.specs.Field.{Symbol, int, any_octets}
use Rattle.format.specs.Digits.{digits, number, without_zeros, upper_digit, digit_value}
use Rattle.format.specs.Number.{decimal, decimal_of, below, symbol_or_decimal, symbol_value, read_integer}
use Rattle.format.specs.Token.{plain}
use Rattle.format.specs.Grammar.{is_name}
use Rattle.format.specs.Types.{same_symbol}
use Rattle.format.specs.Catalogue.{TypeName}
use Rattle.format.specs.Run.{shown, read_field}
use Rattle.format.specs.Demands.{sound_symbol, sound_kind, Integers}
use Rattle.format.proofs.Lists.{and_left, and_right, or_left, or_right, not_true, implied, bind_some}
use Rattle.format.proofs.Finite.{at_each}
use Rattle.format.proofs.Digits.{digits_below, digits_length, number_digits, digits_number, zeros_below, zeros_length, decimal_back, number_bound}
use Rattle.format.proofs.Wire.{octets_taken}
use Rattle.format.proofs.Token.{plainly, Plainly, chars_plain}
use Rattle.format.proofs.Field.{Back, FieldLaws, bare_back, width_accepted}

-- decimal
pub decimal_plain : (n : ℕ) → Plainly (decimal n)
decimal_plain n = chars_plain upper_digit 10 refl (without_zeros (digits 10 10 n)) (zeros_below 10 (digits 10 10 n) (digits_below 10 10 n (omega arith)))

decimal_some : (n : ℕ) → 1 ≤ length (decimal n)
decimal_some n = omega (arith, length-map (without_zeros (digits 10 10 n)) upper_digit, zeros_length (digits 10 10 n) (omega (arith, digits_length 10 10 n)))

pub decimal_10 : (n : ℕ) → length (decimal n) ≤ 10
decimal_10 n = omega (arith, length-map (without_zeros (digits 10 10 n)) upper_digit, (zeros_length (digits 10 10 n) (omega (arith, digits_length 10 10 n))).1, digits_length 10 10 n)

-- a leading digit of a number that is too small for it
lead : (b w n : ℕ) → 0 < b → n < b ^ w → digits b (suc w) n ≡ 0 ∷ digits b w n
lead b zero n h k = let e : n ≡ 0 = (let j : n < 1 = rw (pow-zero b) at k in omega arith) in rw (e, zero-mod b)
lead b (suc w) n h k = rw (lead b w (n / b) h ((div-lt_iff_lt-mul h).1 (rw (pow-suc b w) at k)))

five_digits : (n : ℕ) → n < 100000 → without_zeros (digits 10 10 n) ≡ without_zeros (digits 10 5 n)
five_digits n h =
    rw (lead 10 9 n (omega arith) (omega arith), lead 10 8 n (omega arith) (omega arith), lead 10 7 n (omega arith) (omega arith), lead 10 6 n (omega arith) (omega arith), lead 10 5 n (omega arith) (omega arith))

pub decimal_5 : (n : ℕ) → n < 100000 → length (decimal n) ≤ 5
decimal_5 n h =
    omega (arith, length-map (without_zeros (digits 10 10 n)) upper_digit, ap length (five_digits n h), (zeros_length (digits 10 5 n) (omega (arith, digits_length 10 5 n))).1, digits_length 10 5 n)

small_name : (x : ℕ) → name_octet x ≡ true → x < 123
small_name x h = by (ltb x 123) refl
  where
    by : (b : Bool) → ltb x 123 ≡ b → x < 123
    by true e = ltb-true x 123 e
    by false e =
        let l = ltb-false x 123 e in
        let z : false ≡ true = rw (le-leb 65 x (omega arith), lt-leb x 90 (omega arith), le-leb 97 x (omega arith), lt-leb x 122 (omega arith), le-leb 48 x (omega arith), lt-leb x 57 (omega arith), ne_eqb x 45 (omega arith)) at h in
        absurd (true≢false (sym z))

name_plain : (x : ℕ) → name_octet x ≡ true → plainly x ≡ true
name_plain x h = implied (name_octet x) (plainly x) (at_each (λ x. not (name_octet x) || plainly x) 123 refl x (small_name x h)) h

letter_name : (x : ℕ) → letter x ≡ true → name_octet x ≡ true
letter_name x h = rw h

-- a letter is no decimal digit
letter_no_digit : (x : ℕ) → letter x ≡ true → digit_value 10 x ≡ None
letter_no_digit x h = is_none_lem (digit_value 10 x) (implied (letter x) (is_none (digit_value 10 x)) (at_each (λ x. not (letter x) || is_none (digit_value 10 x)) 123 refl x (small_name x (letter_name x h))) h)
  where
    is_none : Option ℕ → Bool
    is_none None = true
    is_none (Some v) = false

    is_none_lem : (o : Option ℕ) → is_none o ≡ true → o ≡ None
    is_none_lem None e = refl
    is_none_lem (Some v) e = cc

names_plain : (t : List ℕ) → all_of name_octet t ≡ true → Plainly t
names_plain [] h = tt
names_plain (x ∷ t) h = (name_plain x (and_left (name_octet x) (all_of name_octet t) h), names_plain t (and_right (name_octet x) (all_of name_octet t) h))

-- what a name is
pub record Named (t : List ℕ) : Type 0 where
  pub plain : Plainly t
  pub some_octet : 1 ≤ length t
  pub short : length t ≤ 63
  pub no_number : decimal_of t ≡ None

pub named : (t : List ℕ) → is_name t ≡ true → Named t
named [] h = let z : ◌≡◌ {A = ℕ} 0 1 = cc in absurd (omega arith)
named (x ∷ t) h =
    let a = and_left (letter x && all_of name_octet (x ∷ t)) (leb (suc (length t)) 63) h in
    record {
      plain = names_plain (x ∷ t) (and_right (letter x) (all_of name_octet (x ∷ t)) a);
      some_octet = omega arith;
      short = leb-true (suc (length t)) 63 (and_right (letter x && all_of name_octet (x ∷ t)) (leb (suc (length t)) 63) h);
      no_number = rw (letter_no_digit x (and_left (letter x) (all_of name_octet (x ∷ t)) a)) (either (in_range 1 10 (suc (length t))));
    }
  where
    either : (b : Bool) → cond {A = Option ℕ} b None None ≡ None
    either true = refl
    either false = refl

pub same_word_lem : (t : List ℕ) → same_word t t ≡ true
same_word_lem [] = refl
same_word_lem (x ∷ t) = rw (eq-eqb (lowered x) (lowered x) refl, same_word_lem t)

-- A number prints in decimal, or as a symbol that reads back; a test that no spelling passes, the symbol does not pass.
data Printed (l : List Symbol) (v : ℕ) : Type 0 where
  in_decimal : symbol_or_decimal l v ≡ decimal v → Printed l v
  by_symbol : (t : List ℕ) → is_name t ≡ true → symbol_or_decimal l v ≡ t → symbol_value l t ≡ Some v
      → ((f : List ℕ → Bool) → any_of (λ s. f s.spelling.octets) l ≡ false → f t ≡ false) → Printed l v

printed : (w : ℕ) (l : List Symbol) (v : ℕ) → all_of (sound_symbol w) l ≡ true → twice same_symbol l ≡ false → Printed l v
printed w [] v h d = in_decimal refl
printed w (s ∷ ss) v h d =
    by (eqb s.value v) refl (printed w ss v (and_right (sound_symbol w s) (all_of (sound_symbol w) ss) h) (or_right (any_of (same_symbol s) ss) (twice same_symbol ss) d))
  where
    word : List ℕ
    word = s.spelling.octets

    on : eqb s.value v ≡ false → Printed ss v → Printed (s ∷ ss) v
    on e (in_decimal p) = in_decimal (rw (e, p))
    on e (by_symbol t n p q a) =
        by_symbol t n (rw (e, p)) (rw (a (same_word word) (or_left (any_of (same_symbol s) ss) (twice same_symbol ss) d), q))
        (λ f g. a f (or_right (f word) (any_of (λ s. f s.spelling.octets) ss) g))

    by : (b : Bool) → eqb s.value v ≡ b → Printed ss v → Printed (s ∷ ss) v
    by true e r =
        by_symbol word (and_left (is_name word) (ltb s.value (256 ^ w)) (and_left (sound_symbol w s) (all_of (sound_symbol w) ss) h))
        (rw e) (rw (same_word_lem word, eqb-true s.value v e)) (λ f g. or_left (f word) (any_of (λ s. f s.spelling.octets) ss) g)
    by false e r = on e r

-- what a number's text is
record Text (w : ℕ) (l : List Symbol) (v : ℕ) : Type 0 where
  reads : read_integer w l (symbol_or_decimal l v) ≡ Some (digits 256 w v)
  some_octet : 1 ≤ length (symbol_or_decimal l v)
  plain : Plainly (symbol_or_decimal l v)
  short : length (symbol_or_decimal l v) ≤ 63

text_of : (w : ℕ) (l : List Symbol) (v : ℕ) → w ≤ 4 → v < 256 ^ w → Printed l v → Text w l v
text_of w l v h k (in_decimal p) =
    let m : 256 ^ w ≤ 256 ^ 4 = pow-le-pow_right (omega arith) h in
    record {
      reads = rw (p, decimal_back v (omega arith), lt-ltb v (256 ^ w) k);
      some_octet = rw p (decimal_some v);
      plain = rw p (decimal_plain v);
      short = rw p (omega (arith, decimal_10 v));
    }
text_of w l v h k (by_symbol t n p q a) =
    let r = named t n in
    record { reads = rw (p, r.no_number, q); some_octet = rw p r.some_octet; plain = rw p r.plain; short = rw p r.short }

width_small : (w : ℕ) → among w (1 ∷ 2 ∷ 4 ∷ []) ≡ true → (1 ≤ w) × (w ≤ 4)
width_small w h = by (eqb w 1) refl (eqb w 2) refl (eqb w 4) refl h
  where
    by : (a : Bool) → eqb w 1 ≡ a → (b : Bool) → eqb w 2 ≡ b → (c : Bool) → eqb w 4 ≡ c → a || (b || (c || false)) ≡ true → (1 ≤ w) × (w ≤ 4)
    by true e b f c g h = let q = eqb-true w 1 e in (omega arith, omega arith)
    by false e true f c g h = let q = eqb-true w 2 f in (omega arith, omega arith)
    by false e false f true g h = let q = eqb-true w 4 g in (omega arith, omega arith)
    by false e false f false g h = absurd (true≢false (sym h))

-- the one fact over the width
pub integers : Integers
integers w = (λ n h. number_digits 256 w n (omega arith) h, λ p b e. rw e at (digits_number 256 p b))

-- I1, I2, I4
module _ (w : ℕ) (l : List Symbol) (h : sound_kind (int w l) ≡ true) where
  small : (1 ≤ w) × (w ≤ 4)
  small = width_small w (and_left (among w (1 ∷ 2 ∷ 4 ∷ [])) (all_of (sound_symbol w) l) (and_left (among w (1 ∷ 2 ∷ 4 ∷ []) && all_of (sound_symbol w) l) (not (twice same_symbol l)) h))

  text : (p : List ℕ) → Octets p → taken (any_octets w) p ≡ took (length p) → Text w l (number 256 p)
  text p b e =
      let n : length p ≡ w = octets_taken w p small.0 e in
      text_of w l (number 256 p) small.1 (rw n at (number_bound 256 p b))
      (printed w l (number 256 p)
      (and_right (among w (1 ∷ 2 ∷ 4 ∷ [])) (all_of (sound_symbol w) l) (and_left (among w (1 ∷ 2 ∷ 4 ∷ []) && all_of (sound_symbol w) l) (not (twice same_symbol l)) h))
      (not_true (twice same_symbol l) (and_right (among w (1 ∷ 2 ∷ 4 ∷ []) && all_of (sound_symbol w) l) (not (twice same_symbol l)) h)))

  reads_octets : (t p : List ℕ) → read_integer w l t ≡ Some p → length p ≡ w
  reads_octets t p e = let (v, a, b) = bind_some (or_else (below (256 ^ w) (decimal_of t)) (symbol_value l t)) (λ v. Some (digits 256 w v)) p e in let q : digits 256 w v ≡ p = cc in rw (← q) (digits_length 256 w v)

  pub int_laws : (c : List TypeName) → FieldLaws c (int w l)
  unfolding Back shown read_field
  int_laws c = record {
    back = λ o p b e r q t.
        let x = text p b e in
        bare_back (read_integer w l) (symbol_or_decimal l (number 256 p)) p r x.some_octet x.plain (x.reads ∙ ap Some ((integers w).1 p b (octets_taken w p small.0 e))) q;
    bound = λ p b e. omega (arith, (text p b e).short);
    accepted = λ o n ts us p e. width_accepted w small.0 (read_integer w l) reads_octets ts us p e;
  }
