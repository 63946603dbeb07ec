-- Document 02, 5: no blank stands in a header or a field line before the one before its free text.
use Prim.Native.Nat.{ℕ, ◌+◌, ◌-◌}
use mathlib.Core.Path.{◌≡◌, refl, sym, ap, ap₂, ◌∙◌, subst}
use mathlib.Core.Logic.{◌⊎◌, inl, inr}
use mathlib.Core.Bool.{Bool, true, false, not, cond, ◌&&◌, true≢false}
use mathlib.Core.List.{List, [], ◌∷◌, ◌++◌, append_assoc, append-nil}
use Rattle.std.specs.Prelude.{Option, None, Some}
use native.Mathlib.Omega.{arith}
use lib.ListN.{length}
use lib.Dec.{eqb}
use borrow.Author.Tests.{eqb-true}
use Rattle.format.specs.Lists.{◌>>=◌, cons_both, parting, each_of, null, all_of, Spanned, spanning, span}
use Rattle.format.specs.Octets.{blank, in_range, digit, letter, alphanumeric, name_octet, split_on}
use Rattle.format.specs.Field.{Part}
use Rattle.format.specs.Digits.{number, digit_value}
use Rattle.format.specs.Number.{decimal_of}
use Rattle.format.specs.Lines.{placed}
use Rattle.format.specs.Grammar.{part_at, starts_with_letter, is_name, name_at, after, free_text_at, Header, Numbered, if_decimal, if_letters, after_options, header_line, Qualifier, word, symbol, if_qualifier, qualifier, Qualified, not_bracket, if_qualifiers, qualifiers_at, field_name_at, FieldLine, if_type, field_line}
use Rattle.format.specs.TwoForms.{unindented}
use Rattle.format.specs.PromptLaws.{FixedThenText, FixedParts}
use Rattle.format.proofs.Lists.{and_left, and_right, bind_some, provided_some, split_some}

-- no blank
abbrev pub clear : ℕ → Bool
clear x = not (blank x)

-- an octet that passes a test which space and tab do not pass is no blank
not_this : (f : ℕ → Bool) (c x : ℕ) → f c ≡ false → f x ≡ true → eqb x c ≡ false
not_this f c x h k = by (eqb x c) refl
  where
    by : (b : Bool) → eqb x c ≡ b → b ≡ false
    by true e = absurd (true≢false (sym k ∙ ap f (eqb-true x c e) ∙ h))
    by false e = refl

passes_clear : (f : ℕ → Bool) → f 32 ≡ false → f 9 ≡ false → (x : ℕ) → f x ≡ true → clear x ≡ true
passes_clear f h k x e = rw (not_this f 32 x h e, not_this f 9 x k e)

-- up to a rest there is no blank
pub record ClearTo (t r : List ℕ) : Type 0 where
  pub front : List ℕ
  pub parts : t ≡ front ++ r
  pub clears : all_of clear front ≡ true

clear_none : (t : List ℕ) → ClearTo t t
clear_none t = record { front = []; parts = refl; clears = refl }

all_append : (u v : List ℕ) → all_of clear u ≡ true → all_of clear v ≡ true → all_of clear (u ++ v) ≡ true
all_append [] v h k = k
all_append (x ∷ u) v h k = rw (and_left (clear x) (all_of clear u) h, all_append u v (and_right (clear x) (all_of clear u) h) k)

clear_trans : (t r s : List ℕ) → ClearTo t r → ClearTo r s → ClearTo t s
clear_trans t r s a b = record {
  front = a.front ++ b.front;
  parts = a.parts ∙ ap (λ v. a.front ++ v) b.parts ∙ sym (append_assoc a.front b.front s);
  clears = all_append a.front b.front a.clears b.clears;
}

-- by a span of octets that are no blanks
module _ (f : ℕ → Bool) where
  span_whole : (t : List ℕ) → t ≡ (span f t).front ++ (span f t).rest
  span_whole [] = refl
  span_whole (x ∷ t) = by (f x) (span_whole t)
    where
      by : (b : Bool) → t ≡ (span f t).front ++ (span f t).rest → x ∷ t ≡ Spanned.front (spanning b x t (span f t)) ++ Spanned.rest (spanning b x t (span f t))
      by true ih = ap (λ v. x ∷ v) ih
      by false ih = refl

  module _ (c : (x : ℕ) → f x ≡ true → clear x ≡ true) where
    span_clear : (t : List ℕ) → all_of clear (span f t).front ≡ true
    span_clear [] = refl
    span_clear (x ∷ t) = by (f x) refl (span_clear t)
      where
        by : (b : Bool) → f x ≡ b → all_of clear (span f t).front ≡ true → all_of clear (Spanned.front (spanning b x t (span f t))) ≡ true
        by true e ih = rw (c x e, ih)
        by false e ih = refl

    clear_span : (t : List ℕ) → ClearTo t (span f t).rest
    clear_span t = record { front = (span f t).front; parts = span_whole t; clears = span_clear t }

clear_after : (c : ℕ) → clear c ≡ true → (t r : List ℕ) → after c t ≡ Some r → ClearTo t r
clear_after c h [] r e = let z : ◌≡◌ {A = ℕ} 0 1 = cc in absurd (omega arith)
clear_after c h (x ∷ t) r e =
    let (a, b) = provided_some (eqb x c) t r e in
    record { front = x ∷ []; parts = ap (λ v. x ∷ v) b; clears = rw (eqb-true x c a, h) }

name_clear : (x : ℕ) → name_octet x ≡ true → clear x ≡ true
name_clear x h = passes_clear name_octet refl refl x h

-- what stands where free text is sought
pub data Ends (r text : List ℕ) : Type 0 where
  nothing : r ≡ [] → text ≡ [] → Ends r text
  blank_first : (b : ℕ) → blank b ≡ true → r ≡ b ∷ text → Ends r text

text_ends : (end : ℕ) (r : List ℕ) (p : Part) → free_text_at end r ≡ Some p → Ends r p.octets
text_ends end [] p e = let z : part_at end [] [] ≡ p = cc in nothing refl (rw (← z))
text_ends end (x ∷ t) p e =
    let (a, b) = provided_some (blank x && all_of (in_range 0x20 0xFE) t) (part_at end t t) p e in
    blank_first x (and_left (blank x) (all_of (in_range 0x20 0xFE) t) a) (rw (← b))

-- so the fixed part is all before it
span_over : (u r text : List ℕ) → all_of clear u ≡ true → Ends r text → (span clear (u ++ r)).front ≡ u
span_over [] r text h (nothing a b) = rw a
span_over [] r text h (blank_first b k e) = rw (e, k)
span_over (x ∷ u) r text h e = rw (and_left (clear x) (all_of clear u) h, span_over u r text (and_right (clear x) (all_of clear u) h) e)

-- a line that is clear up to where free text is sought
abbrev pub fixed : List ℕ → List ℕ
fixed t = (span clear t).front

abbrev pub ThenText : List ℕ → List ℕ → Type 0
ThenText t text = ((t ≡ fixed t) × (text ≡ [])) ⊎ ((b : ℕ) × (blank b ≡ true) × (t ≡ fixed t ++ b ∷ text))

fixed_then : (t r text : List ℕ) → ClearTo t r → Ends r text → ThenText t text
fixed_then t r text c e = by e
  where
    front : fixed t ≡ c.front
    front = ap fixed c.parts ∙ span_over c.front r text c.clears e

    by : Ends r text → ThenText t text
    by (nothing a b) = inl (c.parts ∙ ap (λ v. c.front ++ v) a ∙ append-nil c.front ∙ sym front, b)
    by (blank_first b k q) = inr (b, k, c.parts ∙ ap₂ (λ u v. u ++ v) (sym front) q)

-- the header
options_clear : (t r : List ℕ) → after_options t ≡ Some r → ClearTo t r
options_clear [] r e = let z : [] ≡ r = cc in rw (← z) (clear_none [])
options_clear (x ∷ t) r e = by (eqb x 58) refl e
  where
    by : (b : Bool) → eqb x 58 ≡ b → cond b (if_letters (span letter t)) (Some (x ∷ t)) ≡ Some r → ClearTo (x ∷ t) r
    by true h e =
        let (a, b) = provided_some (not (null (span letter t).front)) (span letter t).rest r e in
        clear_trans (x ∷ t) t r (record { front = x ∷ []; parts = refl; clears = rw (eqb-true x 58 h) }) (rw (← b) (clear_span letter (λ y k. passes_clear letter refl refl y k) t))
    by false h e = let z : x ∷ t ≡ r = cc in rw (← z) (clear_none (x ∷ t))

header_fixed : (end : ℕ) (t : List ℕ) (h : Header) → header_line end t ≡ Some h → ThenText t h.header_text.octets
header_fixed end t h e =
    let (m, a, b) = bind_some (name_at t) _ h e in
    let (u, c, d) = bind_some (after 58 m.rest) _ h b in
    let (n, f, g) = bind_some (if_decimal (span digit u)) _ h d in
    let (r, i, j) = bind_some (after_options n.rest) _ h g in
    let (p, k, l) = bind_some (free_text_at end r) _ h j in
    let (v, w) = provided_some (is_name (span name_octet t).front) (span name_octet t) m a in
    let (x, y, z) = bind_some (decimal_of (span digit u).front) (λ n. Some (record { value = n; rest = (span digit u).rest })) n f in
    let q : ◌≡◌ {A = Numbered} (record { value = x; rest = (span digit u).rest }) n = cc in
    let s : ◌≡◌ {A = Header} (record { type_name = part_at end t m.front; type_no = n.value; header_text = p }) h = cc in
    let c1 : ClearTo t m.rest = subst (λ (o : Spanned). ClearTo t o.rest) w (clear_span name_octet name_clear t) in
    let c2 : ClearTo m.rest u = clear_after 58 refl m.rest u c in
    let c3 : ClearTo u n.rest = subst (λ (o : Numbered). ClearTo u o.rest) q (clear_span digit (λ y k. passes_clear digit refl refl y k) u) in
    let c4 : ClearTo n.rest r = options_clear n.rest r i in
    rw (← s) (fixed_then t r p.octets (clear_trans t m.rest r c1 (clear_trans m.rest u r c2 (clear_trans u n.rest r c3 c4))) (text_ends end r p k))

-- a field line: digits, one qualifier, all of them
some_not : (f : ℕ → Option ℕ) (c x y : ℕ) → f c ≡ None → f x ≡ Some y → eqb x c ≡ false
some_not f c x y h k = by (eqb x c) refl
  where
    by : (b : Bool) → eqb x c ≡ b → b ≡ false
    by true e = let q : None ≡ Some y = sym h ∙ ap f (sym (eqb-true x c e)) ∙ k in let z : ◌≡◌ {A = ℕ} 0 1 = cc in absurd (omega arith)
    by false e = refl

each_clear : (f : ℕ → Option ℕ) → f 32 ≡ None → f 9 ≡ None → (xs ys : List ℕ) → each_of f xs ≡ Some ys → all_of clear xs ≡ true
each_clear f h k [] ys e = refl
each_clear f h k (x ∷ xs) ys e = by (f x) refl (each_of f xs) refl e (λ zs. each_clear f h k xs zs)
  where
    by : (o : Option ℕ) → f x ≡ o → (p : Option (List ℕ)) → each_of f xs ≡ p → cons_both o p ≡ Some ys → ((zs : List ℕ) → each_of f xs ≡ Some zs → all_of clear xs ≡ true) → all_of clear (x ∷ xs) ≡ true
    by None a p b e ih = let z : ◌≡◌ {A = ℕ} 0 1 = cc in absurd (omega arith)
    by (Some y) a None b e ih = let z : ◌≡◌ {A = ℕ} 0 1 = cc in absurd (omega arith)
    by (Some y) a (Some zs) b e ih = rw (some_not f 32 x y h a, some_not f 9 x y k a, ih zs b)

decimal_clear : (t : List ℕ) (n : ℕ) → decimal_of t ≡ Some n → all_of clear t ≡ true
decimal_clear t n e = by (in_range 1 10 (length t)) e
  where
    by : (b : Bool) → cond b (each_of (digit_value 10) t >>= λ ds. Some (number 10 ds)) None ≡ Some n → all_of clear t ≡ true
    by true e = let (ds, a, b) = bind_some (each_of (digit_value 10) t) (λ ds. Some (number 10 ds)) n e in each_clear (digit_value 10) refl refl t ds a
    by false e = let z : ◌≡◌ {A = ℕ} 0 1 = cc in absurd (omega arith)

null_is : (t : List ℕ) → null t ≡ true → t ≡ []
null_is [] h = refl
null_is (x ∷ t) h = absurd (true≢false (sym h))

qualifier_clear : (p : Part) (q : Qualifier) → qualifier p ≡ Some q → all_of clear p.octets ≡ true
qualifier_clear p q e =
    let (s, a, b) = bind_some (name_at p.octets) (if_qualifier p.place) q e in
    let (v, w) = provided_some (is_name (span name_octet p.octets).front) (span name_octet p.octets) s a in
    by s (subst (λ (o : Spanned). ClearTo p.octets o.rest) w (clear_span name_octet name_clear p.octets)) (null s.rest) refl b
  where
    by : (s : Spanned) → ClearTo p.octets s.rest → (b : Bool) → null s.rest ≡ b
        → cond b (Some (word s.front)) (after 61 s.rest >>= λ ds. decimal_of ds >>= λ n. Some (symbol (record { spelling = record { place = p.place; octets = s.front }; value = n }))) ≡ Some q
        → all_of clear p.octets ≡ true
    by s c true n e = rw (c.parts, null_is s.rest n, append-nil c.front) c.clears
    by s c false n e =
        let (ds, f, g) = bind_some (after 61 s.rest) _ q e in
        let (m, i, j) = bind_some (decimal_of ds) _ q g in
        let d = clear_trans p.octets s.rest ds c (clear_after 61 refl s.rest ds f) in
        rw d.parts (all_append d.front ds d.clears (decimal_clear ds m i))

pieces_clear : (at : ℕ) (ts : List (List ℕ)) (qs : List Qualifier) → each_of qualifier (placed at ts) ≡ Some qs → all_of (all_of clear) ts ≡ true
pieces_clear at [] qs e = refl
pieces_clear at (t ∷ ts) qs e = by (qualifier (record { place = at; octets = t })) refl (each_of qualifier (placed (at + length t + 1) ts)) refl e (λ rs. pieces_clear (at + length t + 1) ts rs)
  where
    by : (o : Option Qualifier) → qualifier (record { place = at; octets = t }) ≡ o → (p : Option (List Qualifier)) → each_of qualifier (placed (at + length t + 1) ts) ≡ p → cons_both o p ≡ Some qs
        → ((rs : List Qualifier) → each_of qualifier (placed (at + length t + 1) ts) ≡ Some rs → all_of (all_of clear) ts ≡ true) → all_of (all_of clear) (t ∷ ts) ≡ true
    by None a p b e ih = let z : ◌≡◌ {A = ℕ} 0 1 = cc in absurd (omega arith)
    by (Some q) a None b e ih = let z : ◌≡◌ {A = ℕ} 0 1 = cc in absurd (omega arith)
    by (Some q) a (Some rs) b e ih = rw (qualifier_clear (record { place = at; octets = t }) q a, ih rs b)

commas_clear : (xs : List ℕ) → all_of (all_of clear) (split_on 44 xs) ≡ true → all_of clear xs ≡ true
commas_clear [] h = refl
commas_clear (x ∷ xs) h = by (eqb x 44) refl (split_on 44 xs) refl h (commas_clear xs)
  where
    by : (b : Bool) → eqb x 44 ≡ b → (ts : List (List ℕ)) → split_on 44 xs ≡ ts → all_of (all_of clear) (parting b x ts) ≡ true → (all_of (all_of clear) (split_on 44 xs) ≡ true → all_of clear xs ≡ true) → all_of clear (x ∷ xs) ≡ true
    by true e ts w h ih = rw (eqb-true x 44 e, ih (ap (all_of (all_of clear)) w ∙ h))
    by false e [] w h ih = absurd (true≢false (ap null (sym w) ∙ split_some (λ y. eqb y 44) xs))
    by false e (t ∷ ts) w h ih =
        let a = and_left (clear x && all_of clear t) (all_of (all_of clear) ts) h in
        let b = and_right (clear x && all_of clear t) (all_of (all_of clear) ts) h in
        rw (and_left (clear x) (all_of clear t) a, ih (rw (w, and_right (clear x) (all_of clear t) a, b)))

qualifiers_clear : (end : ℕ) (t : List ℕ) (q : Qualified) → qualifiers_at end t ≡ Some q → ClearTo t q.rest
qualifiers_clear end [] q e = let w : ◌≡◌ {A = Qualified} (record { qualifiers = []; rest = [] }) q = cc in rw (← w) (clear_none [])
qualifiers_clear end (x ∷ t) q e = by (eqb x 91) refl e
  where
    by : (b : Bool) → eqb x 91 ≡ b → cond b (if_qualifiers (end - length t) (span not_bracket t)) (Some (record { qualifiers = []; rest = x ∷ t })) ≡ Some q → ClearTo (x ∷ t) q.rest
    by true h e =
        let (qs, a, b) = bind_some (each_of qualifier (placed (end - length t) (split_on 44 (span not_bracket t).front))) _ q e in
        let (r, c, d) = bind_some (after 93 (span not_bracket t).rest) _ q b in
        let w : ◌≡◌ {A = Qualified} (record { qualifiers = qs; rest = r }) q = cc in
        let f = commas_clear (span not_bracket t).front (pieces_clear (end - length t) (split_on 44 (span not_bracket t).front) qs a) in
        let c1 : ClearTo (x ∷ t) t = record { front = x ∷ []; parts = refl; clears = rw (eqb-true x 91 h) } in
        let c2 : ClearTo t (span not_bracket t).rest = record { front = (span not_bracket t).front; parts = span_whole not_bracket t; clears = f } in
        let c3 : ClearTo (span not_bracket t).rest r = clear_after 93 refl (span not_bracket t).rest r c in
        rw (← w) (clear_trans (x ∷ t) t r c1 (clear_trans t (span not_bracket t).rest r c2 c3))
    by false h e = let w : ◌≡◌ {A = Qualified} (record { qualifiers = []; rest = x ∷ t }) q = cc in rw (← w) (clear_none (x ∷ t))

field_name_clear : (t : List ℕ) (n : Spanned) → field_name_at t ≡ Some n → ClearTo t n.rest
field_name_clear [] n e = let w : ◌≡◌ {A = Spanned} (record { front = []; rest = [] }) n = cc in rw (← w) (clear_none [])
field_name_clear (x ∷ t) n e = by (eqb x 58) refl e
  where
    by : (b : Bool) → eqb x 58 ≡ b → cond b (name_at t) (Some (record { front = []; rest = x ∷ t })) ≡ Some n → ClearTo (x ∷ t) n.rest
    by true h e =
        let (v, w) = provided_some (is_name (span name_octet t).front) (span name_octet t) n e in
        clear_trans (x ∷ t) t n.rest (record { front = x ∷ []; parts = refl; clears = rw (eqb-true x 58 h) }) (subst (λ (o : Spanned). ClearTo t o.rest) w (clear_span name_octet name_clear t))
    by false h e = let w : ◌≡◌ {A = Spanned} (record { front = []; rest = x ∷ t }) n = cc in rw (← w) (clear_none (x ∷ t))

field_fixed : (end : ℕ) (t : List ℕ) (l : FieldLine) → field_line end t ≡ Some l → ThenText t l.free_text.octets
field_fixed end t l e =
    let (k, a, b) = bind_some (if_type (span alphanumeric t)) _ l e in
    let (q, c, d) = bind_some (qualifiers_at end k.rest) _ l b in
    let (n, f, g) = bind_some (field_name_at q.rest) _ l d in
    let (p, h, i) = bind_some (free_text_at end n.rest) _ l g in
    let (v, w) = provided_some (starts_with_letter (span alphanumeric t).front) (span alphanumeric t) k a in
    let s : ◌≡◌ {A = FieldLine} (record { keyword = k.front; qualifiers = q.qualifiers; field_name = part_at end (n.front ++ n.rest) n.front; free_text = p }) l = cc in
    let c1 : ClearTo t k.rest = subst (λ (o : Spanned). ClearTo t o.rest) w (clear_span alphanumeric (λ y j. passes_clear alphanumeric refl refl y j) t) in
    rw (← s) (fixed_then t n.rest p.octets (clear_trans t k.rest n.rest c1 (clear_trans k.rest q.rest n.rest (qualifiers_clear end k.rest q c) (field_name_clear q.rest n f))) (text_ends end n.rest p h))

pub fixed_parts_lem : FixedParts
fixed_parts_lem = record { header = λ end l h e. header_fixed end (unindented l.octets) h e; field = λ end l f e. field_fixed end (unindented l.octets) f e }
