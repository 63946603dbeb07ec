-- Laws of types in a text: of a type that is written plainly, and of the tokens that are left.
use Prim.Native.Nat.{ℕ, zero, suc, ◌+◌, ◌-◌, ◌≤◌, ◌<◌}
use mathlib.Core.Path.{◌≡◌, refl, sym, ap, ◌∙◌}
use mathlib.Core.Bool.{Bool, true, false, not, cond, ◌&&◌, ◌||◌}
use mathlib.Core.List.{List, [], ◌∷◌, ◌++◌, append_assoc, append-nil}
use Rattle.std.specs.Prelude.{Option, None, Some, Ok}
use native.Mathlib.Omega.{arith}
use lib.ListN.{length, take, drop, get_or, length-take, length-drop, take-append-drop}
use lib.Seq.{slice, drop-drop, take-length}
use lib.Dec.{eqb, ltb, leb}
use borrow.Author.Tests.{eqb-true, leb-true, ltb-true, le-ltb}
use Rattle.format.specs.Lists.{◌>>=◌, provided, all_of, twice, cons_both, each_of, span}
use Rattle.format.specs.Octets.{in_range, blank, digit, letter, lowered, same_word, ascii}
use Rattle.format.specs.Digits.{number, digit_value}
use Rattle.format.specs.Number.{decimal_of, below}
use Rattle.format.specs.Rrtype.{type_number}
use Rattle.format.specs.Catalogue.{TypeName, is_type_number, good_alone, clashes, type_number_in}
use Rattle.format.specs.Demands.{sound_names}
use Rattle.format.specs.Grammar.{is_name}
use Rattle.format.specs.Token.{quote_mark, bare, in_bare, scanned, tokens}
use Rattle.format.proofs.Lists.{and_left, and_right, not_true, implied, bind_some, provided_some, drop_next}
use Rattle.format.proofs.Finite.{all_below, at_each}
use Rattle.format.proofs.Token.{plainly, Plainly, in_bare_lem}
use Rattle.tokens.specs.Tokens.{parted_off}
use Rattle.tokens.proofs.Scans.{bare_first}
use Rattle.catalogue.proofs.Laws.{number_first}
use Rattle.buffer.specs.Writing.{after}
use Rattle.bitmap.specs.Reading.{types_read, types_by, TypeWithin, PlainFirst}

-- a letter in either case is plain
raised : (x : ℕ) → x ≤ lowered x
raised x = by (in_range 65 90 x)
  where
    by : (b : Bool) → x ≤ cond b (x + 32) x
    by true = omega arith
    by false = omega arith

module _ (f : ℕ → Bool) (c : ℕ) (t : all_below (λ x. not (eqb (lowered x) c) || f x) (suc c) ≡ true) where
  of_letter : (x : ℕ) → eqb (lowered x) c ≡ true → f x ≡ true
  of_letter x e =
      let l : x < suc c = omega (arith, raised x, eqb-true (lowered x) c e) in
      implied (eqb (lowered x) c) (f x) (at_each (λ x. not (eqb (lowered x) c) || f x) (suc c) t x l) e

-- a decimal digit is plain
not_digit : (x d : ℕ) → digit x ≡ false → digit_value 10 x ≡ Some d → plainly x ≡ true
not_digit x d h e = by (letter x) (rw h at e)
  where
    by : (b : Bool) → cond b (provided (ltb (lowered x - 97 + 10) 10) (lowered x - 97 + 10)) None ≡ Some d → plainly x ≡ true
    by true k = let z : None ≡ Some d = rw (le-ltb (lowered x - 97 + 10) 10 (omega arith)) at k in cc
    by false k = cc

digit_plain : (x d : ℕ) → digit_value 10 x ≡ Some d → plainly x ≡ true
digit_plain x d e = by (digit x) refl
  where
    by : (b : Bool) → digit x ≡ b → plainly x ≡ true
    by true h = implied (digit x) (plainly x) (at_each (λ x. not (digit x) || plainly x) 58 refl x (omega (arith, leb-true x 57 (and_right (leb 48 x) (leb x 57) h)))) h
    by false h = not_digit x d h e

digits_plain : (xs ds : List ℕ) → each_of (digit_value 10) xs ≡ Some ds → Plainly xs
digits_plain [] ds e = tt
digits_plain (x ∷ xs) ds e = by (digit_value 10 x) refl (each_of (digit_value 10) xs) refl e (digits_plain xs)
  where
    by : (o : Option ℕ) → digit_value 10 x ≡ o → (p : Option (List ℕ)) → each_of (digit_value 10) xs ≡ p → cons_both o p ≡ Some ds
        → ((es : List ℕ) → each_of (digit_value 10) xs ≡ Some es → Plainly xs) → Plainly (x ∷ xs)
    by None q p r k ih = let z : ◌≡◌ {A = ℕ} 0 1 = cc in absurd (omega arith)
    by (Some d) q None r k ih = let z : ◌≡◌ {A = ℕ} 0 1 = cc in absurd (omega arith)
    by (Some d) q (Some es) r k ih = (digit_plain x d q, ih es r)

decimal_plain : (xs : List ℕ) (v : ℕ) → decimal_of xs ≡ Some v → Plainly xs
decimal_plain xs v e = by (in_range 1 10 (length xs)) e
  where
    by : (b : Bool) → cond b (each_of (digit_value 10) xs >>= λ ds. Some (number 10 ds)) None ≡ Some v → Plainly xs
    by true k = let (ds, a, c) = bind_some (each_of (digit_value 10) xs) (λ ds. Some (number 10 ds)) v k in digits_plain xs ds a
    by false k = let z : ◌≡◌ {A = ℕ} 0 1 = cc in absurd (omega arith)

-- So the octets of a type are plain, the first is no quote, and the number is in range.
pub record Typed (xs : List ℕ) (v : ℕ) : Type 0 where
  pub plain : Plainly xs
  pub some_octet : 1 ≤ length xs
  pub no_quote : quote_mark (get_or xs 0 0) ≡ false
  pub small : v < 65536

word_typed : (xs : List ℕ) (v : ℕ) → same_word (take 4 xs) (ascii "TYPE") ≡ true → Plainly (drop 4 xs) → v < 65536 → Typed xs v
word_typed [] v e p l = let z : ◌≡◌ {A = ℕ} 0 1 = cc in absurd (omega arith)
word_typed (a ∷ []) v e p l = let z = and_right (eqb (lowered a) 116) false e in let y : ◌≡◌ {A = ℕ} 0 1 = cc in absurd (omega arith)
word_typed (a ∷ b ∷ []) v e p l = let z = and_right (eqb (lowered b) 121) false (and_right (eqb (lowered a) 116) (eqb (lowered b) 121 && false) e) in let y : ◌≡◌ {A = ℕ} 0 1 = cc in absurd (omega arith)
word_typed (a ∷ b ∷ c ∷ []) v e p l =
    let f = and_right (eqb (lowered a) 116) (eqb (lowered b) 121 && (eqb (lowered c) 112 && false)) e in
    let z = and_right (eqb (lowered c) 112) false (and_right (eqb (lowered b) 121) (eqb (lowered c) 112 && false) f) in
    let y : ◌≡◌ {A = ℕ} 0 1 = cc in absurd (omega arith)
word_typed (a ∷ b ∷ c ∷ d ∷ xs) v e p l =
    let f = and_right (eqb (lowered a) 116) (eqb (lowered b) 121 && (eqb (lowered c) 112 && (eqb (lowered d) 101 && true))) e in
    let g = and_right (eqb (lowered b) 121) (eqb (lowered c) 112 && (eqb (lowered d) 101 && true)) f in
    let h = and_right (eqb (lowered c) 112) (eqb (lowered d) 101 && true) g in
    let i = and_left (eqb (lowered a) 116) (eqb (lowered b) 121 && (eqb (lowered c) 112 && (eqb (lowered d) 101 && true))) e in
    record {
      plain = (
        of_letter plainly 116 refl a i,
        (
          of_letter plainly 121 refl b (and_left (eqb (lowered b) 121) (eqb (lowered c) 112 && (eqb (lowered d) 101 && true)) f),
          (
            of_letter plainly 112 refl c (and_left (eqb (lowered c) 112) (eqb (lowered d) 101 && true) g),
            (of_letter plainly 101 refl d (and_left (eqb (lowered d) 101) true h), p),
          ),
        ),
      );
      some_octet = omega arith;
      no_quote = not_true (quote_mark a) (of_letter (λ x. not (quote_mark x)) 116 refl a i);
      small = l;
    }

typed : (xs : List ℕ) (v : ℕ) → type_number xs ≡ Some v → Typed xs v
typed xs v e = by (same_word (take 4 xs) (ascii "TYPE")) refl e
  where
    by : (b : Bool) → same_word (take 4 xs) (ascii "TYPE") ≡ b → cond b (below 65536 (decimal_of (drop 4 xs))) None ≡ Some v → Typed xs v
    by true w k =
        let (x, a, c) = bind_some (decimal_of (drop 4 xs)) (λ v. provided (ltb v 65536) v) v k in
        let (f, g) = provided_some (ltb x 65536) x v c in
        word_typed xs v w (decimal_plain (drop 4 xs) x a) (omega (arith, ltb-true x 65536 f))
    by false w k = let z : ◌≡◌ {A = ℕ} 0 1 = cc in absurd (omega arith)

-- a token of plain octets, and what follows a blank or the end
plain_then : (s r : List ℕ) → Plainly s → parted_off r ≡ true → scanned (in_bare false) (s ++ r) ≡ bare s ∷ tokens r
unfolding scanned
plain_then [] [] h e = refl
plain_then [] (x ∷ r) h e = rw e
plain_then (x ∷ s) r h e = rw (in_bare_lem x h.0, plain_then s r h.1 e)

-- such a type after blanks
first_of : (e x : ℕ) (r : List ℕ) → 0 < e → get_or (take e (x ∷ r)) 0 0 ≡ x
first_of zero x r h = absurd (omega arith)
first_of (suc e) x r h = refl

module _ (n : List TypeName) (g : sound_names n ≡ true) (t : List ℕ) (a v e : ℕ) (p : a ≡ length (span blank t).front) (q : PlainFirst (drop a t) (Some (v, e))) where
  y : Typed (take e (drop a t)) v
  y = typed (take e (drop a t)) v q.0

  some_octet : (0 < e) × (a < length t)
  some_octet = (omega (arith, y.some_octet, length-take e (drop a t)), omega (arith, y.some_octet, length-take e (drop a t), length-drop a t))

  first : get_or (take e (drop a t)) 0 0 ≡ get_or t a 0
  first = ap (λ (s : List ℕ). get_or (take e s) 0 0) (drop_next t a some_octet.1) ∙ first_of e (get_or t a 0) (drop (a + 1) t) some_octet.0

  whole : slice 0 (length t) t ≡ t
  whole = take-length t

  blanks : a ≡ 0 + length (span blank (slice 0 (length t) t)).front
  blanks = rw whole (omega arith)

  plain_token : tokens t ≡ bare (take e (drop a t)) ∷ tokens (drop (a + e) t)
  plain_token =
      sym (bare_first t 0 a (omega arith) blanks some_octet.1 (rw first at y.no_quote))
      ∙ ap (scanned (in_bare false)) (sym (take-append-drop e (drop a t)))
      ∙ plain_then (take e (drop a t)) (drop e (drop a t)) y.plain q.2
      ∙ ap (λ (s : List ℕ). bare (take e (drop a t)) ∷ tokens s) (drop-drop e a t)

  pub plain_types : types_by n t (Ok (v, a + e)) ≡ types_read n t
  plain_types = rw (plain_token, number_first n g (take e (drop a t)) v q.0)

  pub plain_within : TypeWithin t (Ok (v, a + e))
  plain_within = (y.small, omega (arith, some_octet), omega (arith, q.1, length-drop a t, some_octet))

-- its number is a type's
good_low : (n : List TypeName) → all_of good_alone n ≡ true → (s : List ℕ) (v : ℕ) → type_number_in n s ≡ Some v → v < 65536
good_low [] g s v q = (typed s v q).small
good_low (m ∷ ms) g s v q = by (same_word m.spelled s) (good_low ms (and_right (good_alone m) (all_of good_alone ms) g) s v) q
  where
    by : (b : Bool) → (type_number_in ms s ≡ Some v → v < 65536) → cond b (Some m.type_no) (type_number_in ms s) ≡ Some v → v < 65536
    by true k e =
        let a = and_left (leb m.type_no 65535 && is_name m.spelled) (not (is_type_number m.spelled)) (and_left (good_alone m) (all_of good_alone ms) g) in
        let l = leb-true m.type_no 65535 (and_left (leb m.type_no 65535) (is_name m.spelled) a) in
        let z : m.type_no ≡ v = cc in
        omega arith
    by false k e = k e

pub number_low : (n : List TypeName) → sound_names n ≡ true → (s : List ℕ) (v : ℕ) → type_number_in n s ≡ Some v → v < 65536
number_low n g s v q = good_low n (and_right (leb (length n) 512) (all_of good_alone n) (and_left (leb (length n) 512 && all_of good_alone n) (not (twice clashes n)) g)) s v q
