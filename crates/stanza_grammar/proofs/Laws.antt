-- Laws of the parts of a line: the definitions of the grammar, by what the code tests at places of a stanza.
use Prim.Native.Nat.{ℕ, ◌+◌, ◌-◌, ◌≤◌, ◌<◌}
use mathlib.Core.Path.{◌≡◌, refl, sym, ap, ◌∙◌}
use mathlib.Core.Bool.{Bool, true, false, not, ◌&&◌, true≢false}
use mathlib.Core.List.{List, [], ◌∷◌, ◌++◌}
use Rattle.std.specs.Prelude.{Option, None, Some}
use native.Mathlib.Omega.{arith}
use native.Mathlib.Decide.{dec_le}
use lib.ListN.{length, take, drop, get_or, length-append}
use lib.Seq.{slice, slice_empty, length-slice}
use lib.Dec.{leb}
use borrow.Author.Tests.{le-leb, lt-leb, eq-eqb, ne_eqb, eqb-true}
use Rattle.format.specs.Lists.{◌>>=◌, provided, each_of, null, all_of, Spanned, spanning, span}
use Rattle.format.specs.Octets.{in_range, blank, digit, letter, alphanumeric, name_octet, split_on}
use Rattle.format.specs.Number.{decimal_of}
use Rattle.format.specs.Grammar.{part_at, starts_with_letter, is_name, name_at, after, after_options, free_text_at, not_bracket, Qualifier, qualifier, Qualified, qualifiers_at, field_name_at, FieldLine, field_line}
use Rattle.format.specs.Lines.{placed}
use Rattle.octets.specs.Octets.{part_in, front_end}
use Rattle.stanza_words.specs.Qualifiers.{pieces_in, qualifiers_in}
use Rattle.stanza_words.proofs.Laws.{all_front, front}
use Rattle.stanza_grammar.specs.Grammar.{field_line_in}
use Rattle.stanza_grammar.specs.Parts.{begins, text_in, number_after, brackets_in, named_in, NamedWithin, after_type}
use Rattle.stanza_grammar.specs.declared.Brackets.{Brackets}
use Rattle.stanza_grammar.specs.declared.Named.{Named}
use Rattle.octets.proofs.Slices.{next, none as nothing, front_rest, lent}

-- the first octet of a part that is lent
pub begun : (s : List ℕ) (i e c : ℕ) (r t : Bool) → i ≤ e → r ≡ begins c (take (e - i) (drop i s)) → r ≡ t → begins c (slice i e s) ≡ t
begun s i e c r t h q k = ap (begins c) (sym (lent s i e h)) ∙ sym q ∙ k

-- the first octet of a part
pub first_in_lem : (s : List ℕ) (i e c : ℕ) → begins c (slice i e s) ≡ true → i < e
first_in_lem s i e c h = by (dec_le e i)
  where
    by : Dec (e ≤ i) → i < e
    by (yes y) = absurd (true≢false (sym (rw (nothing s i e y) at h)))
    by (no n) = omega arith

first_cons : (s : List ℕ) (i e c : ℕ) → e ≤ length s → begins c (slice i e s) ≡ true → slice i e s ≡ c ∷ slice (i + 1) e s
first_cons s i e c l h =
    let n : slice i e s ≡ get_or s i 0 ∷ slice (i + 1) e s = next s i e (first_in_lem s i e c h) l in
    n ∙ ap (λ x. x ∷ slice (i + 1) e s) (eqb-true (get_or s i 0) c (sym (ap (begins c) n) ∙ h))

-- where a part begins
place : (s : List ℕ) (i e : ℕ) → i ≤ e → e ≤ length s → e - length (slice i e s) ≡ i
place s i e h l = omega (arith, length-slice i e s l)

-- the longest front that passes
module _ (f : ℕ → Bool) where
  span_starts : ((x : ℕ) → letter x ≡ true → f x ≡ true) → (t : List ℕ) → starts_with_letter (span f t).front ≡ starts_with_letter t
  span_starts h [] = refl
  span_starts h (x ∷ t) = by (letter x) refl (f x) refl
    where
      by : (a : Bool) → letter x ≡ a → (b : Bool) → f x ≡ b → starts_with_letter (spanning b x t (span f t)).front ≡ letter x
      by a p true q = refl
      by true p false q = sym q ∙ h x p ∙ sym p
      by false p false q = sym p

  front_part : (s : List ℕ) (i e : ℕ) → i ≤ e → e ≤ length s → slice i (front_end f s i e) s ≡ (span f (slice i e s)).front
  front_part s i e h l = sym (front f s i e h l)

-- a name at the front
named_by : (a b c : Bool) → a ≡ true → b ≡ true → c ≡ true → a && b && c ≡ true
named_by a b c p q r = rw (p, q, r)

long_by : (a b c : Bool) → c ≡ false → a && b && c ≡ false
long_by true true c r = r
long_by true false c r = refl
long_by false b c r = refl

name_starts : (t : List ℕ) → starts_with_letter (span name_octet t).front ≡ starts_with_letter t
name_starts t = span_starts name_octet (λ x h. rw h) t

cut_as : (f : ℕ → Bool) (s : List ℕ) (i e z : ℕ) → i ≤ e → e ≤ length s → z ≡ front_end f s i e → ◌≡◌ {A = Spanned} (record { front = slice i z s; rest = slice z e s }) (span f (slice i e s))
cut_as f s i e z h l q = rw (q, front_part f s i e h l, front_rest f s i e)

pub named : (s : List ℕ) (i e z : ℕ) → i ≤ e → e ≤ length s → starts_with_letter (slice i e s) ≡ true → z ≡ front_end name_octet s i e → z - i ≤ 63
    → Some (record { front = slice i z s; rest = slice z e s }) ≡ name_at (slice i e s)
named s i e z h l a q k =
    let n : length (span name_octet (slice i e s)).front ≤ 63 = omega arith in
    let p : is_name (span name_octet (slice i e s)).front ≡ true
    = named_by _ _ _ (name_starts (slice i e s) ∙ a) (all_front name_octet (slice i e s)) (le-leb _ _ n) in
    ap Some (cut_as name_octet s i e z h l q) ∙ sym (ap (λ b. provided b (span name_octet (slice i e s))) p)

pub unlettered : (s : List ℕ) (i e : ℕ) → starts_with_letter (slice i e s) ≡ false → None ≡ name_at (slice i e s)
unlettered s i e a =
    let p : is_name (span name_octet (slice i e s)).front ≡ false = rw (name_starts (slice i e s) ∙ a) in
    sym (ap (λ b. provided b (span name_octet (slice i e s))) p)

pub overlong : (s : List ℕ) (i e z : ℕ) → z ≡ front_end name_octet s i e → 63 < z - i → None ≡ name_at (slice i e s)
overlong s i e z q k =
    let n : 63 < length (span name_octet (slice i e s)).front = omega arith in
    let t : List ℕ = (span name_octet (slice i e s)).front in
    let p : is_name t ≡ false = long_by (starts_with_letter t) (all_of name_octet t) (leb (length t) 63) (lt-leb _ _ n) in
    sym (ap (λ b. provided b (span name_octet (slice i e s))) p)

-- free text
module _ (s : List ℕ) (i e : ℕ) (h : i < e) (l : e ≤ length s) where
  pub text_all : blank (get_or s i 0) ≡ true → (b : Bool) → b ≡ all_of (in_range 0x20 0xFE) (slice (i + 1) e s) → provided b (part_in s (i + 1) e) ≡ free_text_at e (slice i e s)
  text_all b true q = rw (next s i e h l, b, ← q, place s (i + 1) e (omega arith) l)
  text_all b false q = rw (next s i e h l, b, ← q)

  pub text_tight : blank (get_or s i 0) ≡ false → None ≡ free_text_at e (slice i e s)
  text_tight b = rw (next s i e h l, b)

pub text_none : (s : List ℕ) (i e : ℕ) → e ≤ i → Some (part_in s e e) ≡ free_text_at e (slice i e s)
text_none s i e h = let z : e - 0 ≡ e = omega arith in rw (nothing s i e h, slice_empty e s, z)

-- a number after `:`
pub no_number : (t : List ℕ) → begins 58 t ≡ false → None ≡ number_after t
no_number [] h = refl
no_number (x ∷ t) h = rw h

module _ (s : List ℕ) (i e z : ℕ) (l : e ≤ length s) (c : begins 58 (slice i e s) ≡ true) (q : z ≡ front_end digit s (i + 1) e) where
  digits_at_lem : slice (i + 1) z s ≡ (span digit (slice (i + 1) e s)).front
  digits_at_lem = let h : i < e = first_in_lem s i e 58 c in rw (q) (front_part digit s (i + 1) e (omega arith) l)

  pub number_on : (v : ℕ) → decimal_of (slice (i + 1) z s) ≡ Some v → Some (record { value = v; rest = slice z e s }) ≡ number_after (slice i e s)
  number_on v d =
      let k : slice z e s ≡ (span digit (slice (i + 1) e s)).rest = rw q (front_rest digit s (i + 1) e) in
      rw (k, first_cons s i e 58 l c, ← digits_at_lem, d)

  pub number_off : decimal_of (slice (i + 1) z s) ≡ None → None ≡ number_after (slice i e s)
  number_off d = rw (first_cons s i e 58 l c, ← digits_at_lem, d)

-- the optional `:` and letters
pub no_options : (t : List ℕ) → begins 58 t ≡ false → Some t ≡ after_options t
no_options [] h = refl
no_options (x ∷ t) h = rw h

null_not : (t : List ℕ) → 0 < length t → not (null t) ≡ true
null_not [] h = absurd (omega arith)
null_not (x ∷ t) h = refl

null_is : (t : List ℕ) → length t ≤ 0 → not (null t) ≡ false
null_is [] h = refl
null_is (x ∷ t) h = absurd (omega arith)

module _ (s : List ℕ) (i e z : ℕ) (l : e ≤ length s) (c : begins 58 (slice i e s) ≡ true) (q : z ≡ front_end letter s (i + 1) e) where
  pub options_on : i + 1 < z → Some (slice z e s) ≡ after_options (slice i e s)
  options_on h =
      let k : slice z e s ≡ (span letter (slice (i + 1) e s)).rest = rw q (front_rest letter s (i + 1) e) in
      rw (k, first_cons s i e 58 l c, null_not (span letter (slice (i + 1) e s)).front (omega arith))

  pub options_off : z ≤ i + 1 → None ≡ after_options (slice i e s)
  options_off h = rw (first_cons s i e 58 l c, null_is (span letter (slice (i + 1) e s)).front (omega arith))

-- qualifiers in brackets
abbrev qualified_by : Option (List ℕ) → Option (List Qualifier) → Option Qualified
qualified_by r o = o >>= λ qs. r >>= λ u. Some (record { qualifiers = qs; rest = u })

module _ (s : List ℕ) (i e : ℕ) (l : e ≤ length s) where
  pub no_brackets : begins 91 (slice i e s) ≡ false → (qualifiers_in s i i >>= λ qs. Some (record { qualifiers = qs; rest = slice i e s })) ≡ qualifiers_at e (slice i e s)
  no_brackets h = rw (eq-eqb i i refl) (by (slice i e s) h)
    where
      by : (t : List ℕ) → begins 91 t ≡ false → Some (record { qualifiers = []; rest = t }) ≡ qualifiers_at e t
      by [] h = refl
      by (x ∷ t) h = rw h

  module _ (z : ℕ) (c : begins 91 (slice i e s) ≡ true) (q : z ≡ front_end not_bracket s (i + 1) e) where
    opened : qualifiers_at e (slice i e s) ≡ qualified_by (after 93 (slice z e s)) (each_of qualifier (pieces_in s (i + 1) z))
    opened =
        let h : i < e = first_in_lem s i e 91 c in
        let a : slice (i + 1) z s ≡ (span not_bracket (slice (i + 1) e s)).front = rw q (front_part not_bracket s (i + 1) e (omega arith) l) in
        let b : slice z e s ≡ (span not_bracket (slice (i + 1) e s)).rest = rw q (front_rest not_bracket s (i + 1) e) in
        rw (first_cons s i e 91 l c, place s (i + 1) e (omega arith) l, a, b)

    pub brackets_on : i + 1 < z → begins 93 (slice z e s) ≡ true
        → (qualifiers_in s (i + 1) z >>= λ qs. Some (record { qualifiers = qs; rest = slice (z + 1) e s })) ≡ qualifiers_at e (slice i e s)
    brackets_on h k =
        rw (ne_eqb (i + 1) z (λ g. omega arith)) (ap (λ t. qualified_by (after 93 t) (each_of qualifier (pieces_in s (i + 1) z))) (sym (first_cons s z e 93 l k)) ∙ sym opened)

    pub brackets_open : begins 93 (slice z e s) ≡ false → None ≡ qualifiers_at e (slice i e s)
    brackets_open k = by (each_of qualifier (pieces_in s (i + 1) z)) (ap (λ r. qualified_by r (each_of qualifier (pieces_in s (i + 1) z))) (not_after (slice z e s) k)) ∙ sym opened
      where
        not_after : (t : List ℕ) → begins 93 t ≡ false → None ≡ after 93 t
        not_after [] h = refl
        not_after (x ∷ t) h = rw h

        by : (o : Option (List Qualifier)) → qualified_by None o ≡ qualified_by (after 93 (slice z e s)) o → None ≡ qualified_by (after 93 (slice z e s)) o
        by None g = refl
        by (Some qs) g = g

    pub brackets_empty : z ≤ i + 1 → None ≡ qualifiers_at e (slice i e s)
    brackets_empty h = ap (λ t. qualified_by (after 93 (slice z e s)) (each_of qualifier (placed (i + 1) (split_on 44 t)))) (sym (nothing s (i + 1) z h)) ∙ sym opened

-- a field's name
pub colon_named : (s : List ℕ) (i e : ℕ) → e ≤ length s → begins 58 (slice i e s) ≡ true → name_at (slice (i + 1) e s) ≡ field_name_at (slice i e s)
colon_named s i e l c = rw (first_cons s i e 58 l c)

pub unnamed : (s : List ℕ) (i e : ℕ) → begins 58 (slice i e s) ≡ false → Some (record { front = slice i i s; rest = slice i e s }) ≡ field_name_at (slice i e s)
unnamed s i e h = rw (slice_empty i s) (by (slice i e s) h)
  where
    by : (t : List ℕ) → begins 58 t ≡ false → Some (record { front = []; rest = t }) ≡ field_name_at t
    by [] h = refl
    by (x ∷ t) h = rw h

-- a field line by its parts
parts_place : (s : List ℕ) (a z e : ℕ) → a ≤ z → z ≤ e → e ≤ length s → e - length (slice a z s ++ slice z e s) ≡ a
parts_place s a z e h k l = let m : z ≤ length s = omega arith in omega (arith, length-append (slice a z s) (slice z e s), length-slice a z s m, length-slice z e s l)

-- the line with the type k and qualifiers that were found
abbrev line_of : ℕ → List ℕ → Qualified → Option FieldLine
line_of e k q = do
  n ← field_name_at q.rest
  x ← free_text_at e n.rest
  Some (record { keyword = k; qualifiers = q.qualifiers; field_name = part_at e (n.front ++ n.rest) n.front; free_text = x })

module _ (s : List ℕ) (i k e : ℕ) where
  module _ {r : Option Brackets} {w : Brackets} (g : r ≡ Some w) (h : brackets_in s e r ≡ qualifiers_at e (slice k e s)) where
    line_by : (f : List Qualifier → Option FieldLine) → ((qs : List Qualifier) → f qs ≡ line_of e (slice i k s) (record { qualifiers = qs; rest = slice w.rest e s }))
        → (qualifiers_in s w.at w.end >>= f) ≡ after_type e (slice i k s) (slice k e s)
    line_by f u = by (qualifiers_in s w.at w.end) ∙ ap (λ q. q >>= line_of e (slice i k s)) (rw g at h)
      where
        by : (o : Option (List Qualifier)) → (o >>= f) ≡ ((o >>= λ qs. Some (record { qualifiers = qs; rest = slice w.rest e s })) >>= line_of e (slice i k s))
        by None = refl
        by (Some qs) = u qs

    broken_line : ((qs : List Qualifier) → None ≡ line_of e (slice i k s) (record { qualifiers = qs; rest = slice w.rest e s })) → None ≡ after_type e (slice i k s) (slice k e s)
    broken_line u = by (qualifiers_in s w.at w.end) ∙ line_by (λ qs. None) u
      where
        by : (o : Option (List Qualifier)) → ◌≡◌ {A = Option FieldLine} None (o >>= λ qs. None)
        by None = refl
        by (Some qs) = refl

    pub bad_name : {t : Option Named} → t ≡ None → named_in s e t ≡ field_name_at (slice w.rest e s) → None ≡ after_type e (slice i k s) (slice k e s)
    bad_name d n = let q : None ≡ field_name_at (slice w.rest e s) = rw d at n in broken_line (λ qs. rw (← q))

    module _ {t : Option Named} {m : Named} (d : t ≡ Some m) (n : named_in s e t ≡ field_name_at (slice w.rest e s)) {p : Option ℕ} where
      pub bad_text : p ≡ None → text_in s e p ≡ free_text_at e (slice m.end e s) → None ≡ after_type e (slice i k s) (slice k e s)
      bad_text y v =
          let q : Some (record { front = slice m.at m.end s; rest = slice m.end e s }) ≡ field_name_at (slice w.rest e s) = rw d at n in
          let x : None ≡ free_text_at e (slice m.end e s) = rw y at v in
          broken_line (λ qs. rw (← q, ← x))

      pub line_found : {x : ℕ} → p ≡ Some x → text_in s e p ≡ free_text_at e (slice m.end e s) → NamedWithin e t → e ≤ length s
          → field_line_in s i e (Some (record { type_end = k; qualifiers_at = w.at; qualifiers_end = w.end; name_at = m.at; name_end = m.end; text_at = x }))
          ≡ after_type e (slice i k s) (slice k e s)
      line_found {x = x} y v u l =
          let there : (m.at ≤ m.end) × (m.end ≤ e) = rw d at u in
          let q : Some (record { front = slice m.at m.end s; rest = slice m.end e s }) ≡ field_name_at (slice w.rest e s) = rw d at n in
          let o : Some (part_in s x e) ≡ free_text_at e (slice m.end e s) = rw y at v in
          line_by (λ qs. Some (record { keyword = slice i k s; qualifiers = qs; field_name = part_in s m.at m.end; free_text = part_in s x e })) (λ qs. rw (← q, ← o, parts_place s m.at m.end e there.0 there.1 l))

-- a field line after its type
typed_by : (t : List ℕ) → starts_with_letter (span alphanumeric t).front ≡ starts_with_letter t
typed_by t = span_starts alphanumeric (λ x h. rw h) t

pub typed : (s : List ℕ) (i e z : ℕ) → i ≤ e → e ≤ length s → starts_with_letter (slice i e s) ≡ true → z ≡ front_end alphanumeric s i e
    → after_type e (slice i z s) (slice z e s) ≡ field_line e (slice i e s)
typed s i e z h l a q =
    let n : ◌≡◌ {A = Spanned} (record { front = slice i z s; rest = slice z e s }) (span alphanumeric (slice i e s)) = cut_as alphanumeric s i e z h l q in
    rw (typed_by (slice i e s) ∙ a, ← n)

pub untyped : (s : List ℕ) (i e : ℕ) → starts_with_letter (slice i e s) ≡ false → None ≡ field_line e (slice i e s)
untyped s i e a = rw (typed_by (slice i e s) ∙ a)
