-- Laws of the first symbol that fits, among the pieces between commas.
use Prim.Native.Nat.{ℕ, ◌+◌, ◌^◌, ◌≤◌}
use Prim.Native.Char.{code}
use mathlib.Core.Path.{◌≡◌, refl, sym, ap, ◌∙◌}
use mathlib.Core.Bool.{Bool, true, false, cond}
use mathlib.Core.List.{List, [], ◌∷◌}
use Rattle.std.specs.Prelude.{Option, None, Some}
use native.Mathlib.Omega.{arith}
use lib.ListN.{length, take, length-take, length-drop}
use lib.Seq.{slice, length-slice}
use lib.Dec.{eqb, ltb}
use borrow.Author.Tests.{ne_eqb, eq-eqb, eqb-true, eqb-false}
use Rattle.format.specs.Lists.{◌>>=◌, provided, or_else, cons_both, each_of, null, Spanned}
use Rattle.format.specs.Octets.{name_octet, same_word}
use Rattle.format.specs.Number.{decimal, decimal_of, symbol_or_decimal, symbol_value}
use Rattle.format.specs.Field.{Part, Symbol}
use Rattle.format.specs.Grammar.{Qualifier, word, symbol, after, if_qualifier, qualifier}
use Rattle.format.specs.Types.{symbol_of}
use Rattle.octets.specs.Octets.{part_in, front_end}
use Rattle.octets.proofs.Slices.{front_within}
use Rattle.stanza_words.specs.Qualifiers.{pieces_in}
use Rattle.stanza_words.proofs.Laws.{begins, named, not_comma, last_piece, next_piece}
use Rattle.stanza_form.specs.Forms.{symbols_in}
use Rattle.number.specs.Symbols.{first_of, first_in, if_symbol, passing}

-- the next piece, and the last
module _ {B : Type 0} (f : Symbol → Option B) (s : List ℕ) (i b z : ℕ) (h : i ≤ b) (l : b ≤ length s) (q : z ≡ front_end not_comma s i b) where
  pub first_here : (y : B) → if_symbol f (qualifier (part_in s i z)) ≡ Some y → first_in f s i b ≡ Some y
  first_here y e = by (eqb z b) refl
    where
      by : (t : Bool) → eqb z b ≡ t → first_in f s i b ≡ Some y
      by true m = rw (last_piece s i b z h l q (eqb-true z b m), e)
      by false m = rw (next_piece s i b z h l q (eqb-false z b m), e)

  pub first_none : z ≡ b → if_symbol f (qualifier (part_in s i z)) ≡ None → first_in f s i b ≡ None
  first_none m e = rw (last_piece s i b z h l q m, e)

  pub first_next : (z ≡ b → ⊥) → if_symbol f (qualifier (part_in s i z)) ≡ None → first_in f s (z + 1) b ≡ first_in f s i b
  first_next m e = rw (next_piece s i b z h l q m, e)

-- the first symbol that fits, among the pieces and in the list of symbols
module _ {B : Type 0} (f : Symbol → Option B) (w : ℕ) where
  first_symbol : (ps : List Part) (l : List Symbol) → (each_of qualifier ps >>= each_of (symbol_of w)) ≡ Some l → first_of (λ p. if_symbol f (qualifier p)) ps ≡ first_of f l
  first_symbol [] l e = let q : [] ≡ l = cc in rw (← q)
  first_symbol (p ∷ ps) l e = by (qualifier p) (each_of qualifier ps) e (λ m. first_symbol ps m)
    where
      at : (y : Symbol) (b : Bool) (o : Option (List Symbol)) → cons_both (provided b y) o ≡ Some l → ((m : List Symbol) → o ≡ Some m → first_of (λ p. if_symbol f (qualifier p)) ps ≡ first_of f m)
          → or_else (f y) (first_of (λ p. if_symbol f (qualifier p)) ps) ≡ first_of f l
      at y false o e ih = let z : ◌≡◌ {A = ℕ} 0 1 = cc in absurd (omega arith)
      at y true None e ih = let z : ◌≡◌ {A = ℕ} 0 1 = cc in absurd (omega arith)
      at y true (Some m) e ih = let q : y ∷ m ≡ l = cc in rw (← q, ih m refl)

      by : (o : Option Qualifier) (r : Option (List Qualifier)) → (cons_both o r >>= each_of (symbol_of w)) ≡ Some l → ((m : List Symbol) → (r >>= each_of (symbol_of w)) ≡ Some m → first_of (λ p. if_symbol f (qualifier p)) ps ≡ first_of f m)
          → or_else (if_symbol f o) (first_of (λ p. if_symbol f (qualifier p)) ps) ≡ first_of f l
      by None r e ih = let z : ◌≡◌ {A = ℕ} 0 1 = cc in absurd (omega arith)
      by (Some q) None e ih = let z : ◌≡◌ {A = ℕ} 0 1 = cc in absurd (omega arith)
      by (Some (word t)) (Some qs) e ih = let z : ◌≡◌ {A = ℕ} 0 1 = cc in absurd (omega arith)
      by (Some (symbol y)) (Some qs) e ih = at y (ltb y.value (256 ^ w)) (each_of (symbol_of w) qs) e ih

-- the symbols from a to b: none if a is b, else those of the pieces
module _ (s : List ℕ) (a b w : ℕ) (l : List Symbol) (e : symbols_in w s a b ≡ Some l) where
  no_symbols : a ≡ b → [] ≡ l
  no_symbols q = let z : Some [] ≡ Some l = rw (eq-eqb a b q) at e in cc

  among_symbols : {B : Type 0} (f : Symbol → Option B) → (a ≡ b → ⊥) → first_in f s a b ≡ first_of f l
  among_symbols f q = first_symbol f w (pieces_in s a b) l (rw (ne_eqb a b q) at e)

-- the text of a number
abbrev pub or_decimal : ℕ → Option (List ℕ × ℕ) → List ℕ
or_decimal v None = decimal v
or_decimal v (Some (t, x)) = t

-- the tests of a symbol: that it has the number v, and that it has the name t
abbrev pub with_number : ℕ → List ℕ → ℕ → Bool
with_number v n x = eqb x v

abbrev pub with_name : List ℕ → List ℕ → ℕ → Bool
with_name t n x = same_word n t

first_or_decimal : (v : ℕ) (l : List Symbol) → or_decimal v (first_of (passing (with_number v)) l) ≡ symbol_or_decimal l v
first_or_decimal v [] = refl
first_or_decimal v (y ∷ l) = by (eqb y.value v) (first_or_decimal v l)
  where
    by : (b : Bool) → or_decimal v (first_of (passing (with_number v)) l) ≡ symbol_or_decimal l v
        → or_decimal v (or_else (provided b (y.spelling.octets, y.value)) (first_of (passing (with_number v)) l)) ≡ cond b y.spelling.octets (symbol_or_decimal l v)
    by true ih = refl
    by false ih = ih

-- a symbol's name ends within its piece
module _ (a : ℕ) (w : Spanned) (y : Symbol) where
  of_digits : (o : Option ℕ) → (o >>= λ n. Some (symbol (record { spelling = record { place = a; octets = w.front }; value = n }))) ≡ Some (symbol y) → y.spelling.octets ≡ w.front
  of_digits None e = cc
  of_digits (Some n) e = let m : record { spelling = record { place = a; octets = w.front }; value = n } ≡ y = cc in rw (← m)

  of_rest : (r : List ℕ) → cond (null r) (Some (word w.front)) (after (code "=") r >>= λ ds. decimal_of ds >>= λ n. Some (symbol (record { spelling = record { place = a; octets = w.front }; value = n }))) ≡ Some (symbol y)
      → (y.spelling.octets ≡ w.front) × (1 ≤ length r)
  of_rest [] e = let z : ◌≡◌ {A = ℕ} 0 1 = cc in absurd (omega arith)
  of_rest (x ∷ r) e = (by (eqb x (code "=")) e, omega arith)
    where
      by : (b : Bool) → (provided b r >>= λ ds. decimal_of ds >>= λ n. Some (symbol (record { spelling = record { place = a; octets = w.front }; value = n }))) ≡ Some (symbol y) → y.spelling.octets ≡ w.front
      by true e = of_digits (decimal_of r) e
      by false e = cc

begins_some : (t : List ℕ) → begins t ≡ true → 1 ≤ length t
begins_some [] e = let z : ◌≡◌ {A = ℕ} 0 1 = cc in absurd (omega arith)
begins_some (x ∷ t) e = omega arith

pub name_ends : (s : List ℕ) (a z e v : ℕ) → a ≤ z → z ≤ length s → Some (symbol (record { spelling = part_in s a e; value = v })) ≡ qualifier (part_in s a z) → (a ≤ e) × (e ≤ z)
name_ends s a z e v h l q = by (begins (slice a n s)) refl (sym (named s a z n h l refl) ∙ sym q)
  where
    n : ℕ
    n = front_end name_octet s a z

    within : n ≤ z
    within = front_within name_octet s a z h l

    at : begins (slice a n s) ≡ true → (slice a e s ≡ slice a n s) × (1 ≤ length (slice n z s)) → (a ≤ e) × (e ≤ z)
    at b (m, r) =
        let k : length (slice a e s) ≡ length (slice a n s) = ap length m in
        omega (arith, within, begins_some (slice a n s) b, length-slice a n s (omega (arith, within)), length-slice n z s l, length-drop a (take e s), length-take e s)

    by : (b : Bool) → begins (slice a n s) ≡ b → cond b (if_qualifier a (record { front = slice a n s; rest = slice n z s })) None ≡ Some (symbol (record { spelling = part_in s a e; value = v })) → (a ≤ e) × (e ≤ z)
    by true b m = at b (of_rest a (record { front = slice a n s; rest = slice n z s }) (record { spelling = part_in s a e; value = v }) (slice n z s) m)
    by false b m = let z : ◌≡◌ {A = ℕ} 0 1 = cc in absurd (omega arith)

-- a number's text, given the symbol found
module _ (s : List ℕ) (a b v w : ℕ) (l : List Symbol) (e : symbols_in w s a b ≡ Some l) where
  pub bare_text : a ≡ b → decimal v ≡ symbol_or_decimal l v
  bare_text q = rw (← no_symbols s a b w l e q)

  pub found_text : (a ≡ b → ⊥) → (o : Option (List ℕ × ℕ)) → first_in (passing (with_number v)) s a b ≡ o → or_decimal v o ≡ symbol_or_decimal l v
  found_text q o m = rw (← m, among_symbols s a b w l e (passing (with_number v)) q) (first_or_decimal v l)

-- a symbol's number, given the symbol found
abbrev pub number_of : Option (List ℕ × ℕ) → Option ℕ
number_of o = o >>= λ y. Some y.1

first_value : (t : List ℕ) (l : List Symbol) → number_of (first_of (passing (with_name t)) l) ≡ symbol_value l t
first_value t [] = refl
first_value t (y ∷ l) = by (same_word y.spelling.octets t) (first_value t l)
  where
    by : (b : Bool) → number_of (first_of (passing (with_name t)) l) ≡ symbol_value l t
        → number_of (or_else (provided b (y.spelling.octets, y.value)) (first_of (passing (with_name t)) l)) ≡ cond b (Some y.value) (symbol_value l t)
    by true ih = refl
    by false ih = ih

module _ (s : List ℕ) (a b w : ℕ) (l : List Symbol) (e : symbols_in w s a b ≡ Some l) (t : List ℕ) where
  pub no_value : a ≡ b → None ≡ symbol_value l t
  no_value q = rw (← no_symbols s a b w l e q)

  pub found_value : (a ≡ b → ⊥) → (o : Option (List ℕ × ℕ)) → first_in (passing (with_name t)) s a b ≡ o → number_of o ≡ symbol_value l t
  found_value q o m = rw (← m, among_symbols s a b w l e (passing (with_name t)) q) (first_value t l)
