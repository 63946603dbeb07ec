-- What the tests of the pieces between commas say of the qualifiers that are given.
use Prim.Native.Nat.{ℕ, ◌^◌}
use Prim.Native.Char.{code}
use mathlib.Core.Path.{◌≡◌, refl, sym, ap, ◌∙◌}
use mathlib.Core.Bool.{Bool, true, false, not, cond, ◌&&◌, ◌||◌, or-true}
use mathlib.Core.List.{List, [], ◌∷◌, map}
use Rattle.std.specs.Prelude.{Option, None, Some}
use native.Mathlib.Omega.{arith}
use lib.Dec.{eqb, ltb}
use lib.Seq.{slice}
use borrow.Author.Tests.{not-false}
use Rattle.format.specs.Lists.{◌>>=◌, provided, cons_both, each_of, null, any_of, all_of, twice, Spanned, span}
use Rattle.format.specs.Octets.{name_octet, same_octets, split_on, same_word}
use Rattle.format.specs.Number.{decimal_of}
use Rattle.format.specs.Field.{Part, Symbol, Kind}
use Rattle.format.specs.Grammar.{Qualifier, word, symbol, is_name, after, if_qualifier, qualifier}
use Rattle.format.specs.Types.{symbols, words, has_word, known_word, unknown_word, symbol_of, word_of, same_symbol, allowed}
use Rattle.format.proofs.Lists.{or_left, or_right, split_some, map_some, placed_some}
use Rattle.stanza_words.specs.Qualifiers.{pieces_in, words_for, holds_of, any_in, name_in, twice_in}
use Rattle.stanza_words.specs.declared.Test.{Test}
use Rattle.stanza_words.specs.declared.Test.TheVariants.{Malformed, Unknown, NotSymbol, NotWord, IsWord}
use Rattle.stanza_words.specs.declared.Words.{Words}
use Rattle.stanza_words.specs.declared.Words.TheVariants.{OnR, OnN, OnS, OnX}

-- some piece passes a test
abbrev among : Test → List Part → Bool
among t ps = any_of (λ p. holds_of t (qualifier p)) ps

-- pieces and their qualifiers, pairwise
data Each : List Part → List Qualifier → Type 0 where
  each_none : Each [] []
  each_more : {p : Part} {q : Qualifier} {ps : List Part} {qs : List Qualifier} → qualifier p ≡ Some q → Each ps qs → Each (p ∷ ps) (q ∷ qs)

each : (ps : List Part) (qs : List Qualifier) → each_of qualifier ps ≡ Some qs → Each ps qs
each [] qs e = let q : [] ≡ qs = cc in rw (← q) each_none
each (p ∷ ps) qs e = by (qualifier p) refl (each_of qualifier ps) e (λ rs. each ps rs)
  where
    by : (o : Option Qualifier) → qualifier p ≡ o → (r : Option (List Qualifier)) → cons_both o r ≡ Some qs
        → ((rs : List Qualifier) → r ≡ Some rs → Each ps rs) → Each (p ∷ ps) qs
    by None a r e ih = let z : ◌≡◌ {A = ℕ} 0 1 = cc in absurd (omega arith)
    by (Some q) a None e ih = let z : ◌≡◌ {A = ℕ} 0 1 = cc in absurd (omega arith)
    by (Some q) a (Some rs) e ih = let m : q ∷ rs ≡ qs = cc in rw (← m) (each_more a (ih rs refl))

-- every piece is a qualifier exactly if none is malformed
all_qualifiers : (ps : List Part) → among Malformed ps ≡ false → (qs : List Qualifier) × (each_of qualifier ps ≡ Some qs)
all_qualifiers [] h = ([], refl)
all_qualifiers (p ∷ ps) h = by (qualifier p) h (λ k. all_qualifiers ps k)
  where
    by : (o : Option Qualifier) → holds_of Malformed o || among Malformed ps ≡ false
        → (among Malformed ps ≡ false → (qs : List Qualifier) × (each_of qualifier ps ≡ Some qs)) → (qs : List Qualifier) × (cons_both o (each_of qualifier ps) ≡ Some qs)
    by None h ih = let z : ◌≡◌ {A = ℕ} 0 1 = cc in absurd (omega arith)
    by (Some q) h ih = let r = ih h in (q ∷ r.0, rw r.1)

no_qualifiers : (ps : List Part) → among Malformed ps ≡ true → each_of qualifier ps ≡ None
no_qualifiers [] h = cc
no_qualifiers (p ∷ ps) h = by (qualifier p) h (λ k. no_qualifiers ps k)
  where
    by : (o : Option Qualifier) → holds_of Malformed o || among Malformed ps ≡ true → (among Malformed ps ≡ true → each_of qualifier ps ≡ None) → cons_both o (each_of qualifier ps) ≡ None
    by None h ih = refl
    by (Some q) h ih = rw (ih h)

-- some piece is an unknown word exactly if some qualifier is
unknowns : {ps : List Part} {qs : List Qualifier} → Each ps qs → among Unknown ps ≡ any_of unknown_word qs
unknowns each_none = refl
unknowns (each_more {q = q} e r) = rw (e, unknowns r)

-- a word that a type takes is known
taken_known : (t : Words) (w : List ℕ) → has_word (words_for t) w ≡ true → known_word w ≡ true
taken_known OnR w h = rw (h)
taken_known OnN w h = rw (h, or-true)
taken_known OnS w h = rw (h, or-true, or-true)
taken_known OnX w h = rw (h, or-true, or-true, or-true)

-- a test that fails whenever another does: if that one holds of no piece, neither does this one
weaker : (t u : Test) → ((o : Option Qualifier) → holds_of t o ≡ false → holds_of u o ≡ false) → (ps : List Part) → among t ps ≡ false → among u ps ≡ false
weaker t u k [] h = refl
weaker t u k (p ∷ ps) h =
    rw (k (qualifier p) (or_left (holds_of t (qualifier p)) (among t ps) h), weaker t u k ps (or_right (holds_of t (qualifier p)) (among t ps) h))

symbol_formed : (m : ℕ) (o : Option Qualifier) → holds_of (NotSymbol m) o ≡ false → holds_of Malformed o ≡ false
symbol_formed m None h = h
symbol_formed m (Some q) h = refl

symbol_known : (m : ℕ) (o : Option Qualifier) → holds_of (NotSymbol m) o ≡ false → holds_of Unknown o ≡ false
symbol_known m None h = refl
symbol_known m (Some (word w)) h = cc
symbol_known m (Some (symbol s)) h = refl

word_formed : (t : Words) (o : Option Qualifier) → holds_of (NotWord t) o ≡ false → holds_of Malformed o ≡ false
word_formed t None h = h
word_formed t (Some q) h = refl

word_known : (t : Words) (o : Option Qualifier) → holds_of (NotWord t) o ≡ false → holds_of Unknown o ≡ false
word_known t None h = refl
word_known t (Some (word w)) h = rw (taken_known t w (not-false (has_word (words_for t) w) h))
word_known t (Some (symbol s)) h = refl

-- a qualifier's name is the name that its piece begins with
abbrev name_of : Qualifier → List ℕ
name_of (word w) = w
name_of (symbol y) = y.spelling.octets

module _ (a : ℕ) (w : Spanned) (q : Qualifier) where
  number_name : (o : Option ℕ) → (o >>= λ n. Some (symbol (record { spelling = record { place = a; octets = w.front }; value = n }))) ≡ Some q → name_of q ≡ w.front
  number_name None e = cc
  number_name (Some n) e = let m : symbol (record { spelling = record { place = a; octets = w.front }; value = n }) ≡ q = cc in rw (← m)

  digits_name : (o : Option (List ℕ)) → (o >>= λ ds. decimal_of ds >>= λ n. Some (symbol (record { spelling = record { place = a; octets = w.front }; value = n }))) ≡ Some q → name_of q ≡ w.front
  digits_name None e = cc
  digits_name (Some ds) e = number_name (decimal_of ds) e

  rest_name : (b : Bool) → cond b (Some (word w.front)) (after (code "=") w.rest >>= λ ds. decimal_of ds >>= λ n. Some (symbol (record { spelling = record { place = a; octets = w.front }; value = n }))) ≡ Some q → name_of q ≡ w.front
  rest_name true e = let m : word w.front ≡ q = cc in rw (← m)
  rest_name false e = digits_name (after (code "=") w.rest) e

  front_name : (b : Bool) → (provided b w >>= if_qualifier a) ≡ Some q → name_of q ≡ w.front
  front_name true e = rest_name (null w.rest) e
  front_name false e = cc

begins_with : (p : Part) (q : Qualifier) → qualifier p ≡ Some q → name_of q ≡ name_in p
begins_with p q e = front_name p.place (span name_octet p.octets) q (is_name (span name_octet p.octets).front) e

-- two elements have the same image exactly if the list of images has one twice
twice_map : {A B : Type 0} (g : B → B → Bool) (f : A → B) (xs : List A) → twice (λ x y. g (f x) (f y)) xs ≡ twice g (map f xs)
twice_map g f [] = refl
twice_map g f (x ∷ xs) = rw (any_map xs, twice_map g f xs)
  where
    any_map : (ys : List _) → any_of (λ y. g (f x) (f y)) ys ≡ any_of (g (f x)) (map f ys)
    any_map [] = refl
    any_map (y ∷ ys) = rw (any_map ys)

-- symbols and nothing else
module _ (w : ℕ) where
  all_symbols : {ps : List Part} {qs : List Qualifier} → Each ps qs → among (NotSymbol (256 ^ w)) ps ≡ false
      → (l : List Symbol) × (each_of (symbol_of w) qs ≡ Some l) × (map (λ y. y.spelling.octets) l ≡ map name_in ps)
  all_symbols each_none h = ([], refl, refl)
  all_symbols (each_more {p = p} {q = q} {ps = ps} {qs = qs} e r) h = by q e (rw e at h) (λ k. all_symbols r k)
    where
      on : (y : Symbol) → qualifier p ≡ Some (symbol y) → ltb y.value (256 ^ w) ≡ true
          → (l : List Symbol) × (each_of (symbol_of w) qs ≡ Some l) × (map (λ y. y.spelling.octets) l ≡ map name_in ps)
          → (l : List Symbol) × (cons_both (symbol_of w (symbol y)) (each_of (symbol_of w) qs) ≡ Some l) × (map (λ y. y.spelling.octets) l ≡ name_in p ∷ map name_in ps)
      on y e k r = (y ∷ r.0, rw (k, r.1), rw (r.2, begins_with p (symbol y) e))

      by : (q : Qualifier) → qualifier p ≡ Some q → holds_of (NotSymbol (256 ^ w)) (Some q) || among (NotSymbol (256 ^ w)) ps ≡ false
          → (among (NotSymbol (256 ^ w)) ps ≡ false → (l : List Symbol) × (each_of (symbol_of w) qs ≡ Some l) × (map (λ y. y.spelling.octets) l ≡ map name_in ps))
          → (l : List Symbol) × (cons_both (symbol_of w q) (each_of (symbol_of w) qs) ≡ Some l) × (map (λ y. y.spelling.octets) l ≡ name_in p ∷ map name_in ps)
      by (word t) e h ih = let z : ◌≡◌ {A = ℕ} 0 1 = cc in absurd (omega arith)
      by (symbol y) e h ih =
          on y e (not-false (ltb y.value (256 ^ w)) (or_left (not (ltb y.value (256 ^ w))) (among (NotSymbol (256 ^ w)) ps) h))
          (ih (or_right (not (ltb y.value (256 ^ w))) (among (NotSymbol (256 ^ w)) ps) h))

  no_symbols : {ps : List Part} {qs : List Qualifier} → Each ps qs → among (NotSymbol (256 ^ w)) ps ≡ true → each_of (symbol_of w) qs ≡ None
  no_symbols each_none h = cc
  no_symbols (each_more {p = p} {q = q} {ps = ps} {qs = qs} e r) h = by q (rw e at h) (λ k. no_symbols r k)
    where
      after_one : (b : Bool) (y : Symbol) → not b || among (NotSymbol (256 ^ w)) ps ≡ true → (among (NotSymbol (256 ^ w)) ps ≡ true → each_of (symbol_of w) qs ≡ None)
          → cons_both (provided b y) (each_of (symbol_of w) qs) ≡ None
      after_one true y h ih = rw (ih h)
      after_one false y h ih = refl

      by : (q : Qualifier) → holds_of (NotSymbol (256 ^ w)) (Some q) || among (NotSymbol (256 ^ w)) ps ≡ true
          → (among (NotSymbol (256 ^ w)) ps ≡ true → each_of (symbol_of w) qs ≡ None) → cons_both (symbol_of w q) (each_of (symbol_of w) qs) ≡ None
      by (word t) h ih = refl
      by (symbol y) h ih = after_one (ltb y.value (256 ^ w)) y h ih

-- words that a type takes and nothing else
module _ (t : Words) where
  all_words : {ps : List Part} {qs : List Qualifier} → Each ps qs → among (NotWord t) ps ≡ false
      → (each_of word_of qs ≡ Some (map name_in ps)) × (all_of (has_word (words_for t)) (map name_in ps) ≡ true) × ((x : ℕ) → has_word (map name_in ps) (x ∷ []) ≡ among (IsWord x) ps)
  all_words each_none h = (refl, refl, λ x. refl)
  all_words (each_more {p = p} {q = q} {ps = ps} {qs = qs} e r) h = by q e (rw e at h) (λ k. all_words r k)
    where
      on : (v : List ℕ) → qualifier p ≡ Some (word v) → v ≡ name_in p → has_word (words_for t) v ≡ true
          → (each_of word_of qs ≡ Some (map name_in ps)) × (all_of (has_word (words_for t)) (map name_in ps) ≡ true) × ((x : ℕ) → has_word (map name_in ps) (x ∷ []) ≡ among (IsWord x) ps)
          → (cons_both (word_of (word v)) (each_of word_of qs) ≡ Some (name_in p ∷ map name_in ps)) × (has_word (words_for t) (name_in p) && all_of (has_word (words_for t)) (map name_in ps) ≡ true)
          × ((x : ℕ) → same_octets (x ∷ []) (name_in p) || has_word (map name_in ps) (x ∷ []) ≡ holds_of (IsWord x) (qualifier p) || among (IsWord x) ps)
      on v e m k r = (rw (r.0, m), rw (← m, k, r.1), λ x. rw (e, r.2 x, m))

      by : (q : Qualifier) → qualifier p ≡ Some q → holds_of (NotWord t) (Some q) || among (NotWord t) ps ≡ false
          → (among (NotWord t) ps ≡ false → (each_of word_of qs ≡ Some (map name_in ps)) × (all_of (has_word (words_for t)) (map name_in ps) ≡ true) × ((x : ℕ) → has_word (map name_in ps) (x ∷ []) ≡ among (IsWord x) ps))
          → (cons_both (word_of q) (each_of word_of qs) ≡ Some (name_in p ∷ map name_in ps)) × (has_word (words_for t) (name_in p) && all_of (has_word (words_for t)) (map name_in ps) ≡ true)
          × ((x : ℕ) → same_octets (x ∷ []) (name_in p) || has_word (map name_in ps) (x ∷ []) ≡ holds_of (IsWord x) (qualifier p) || among (IsWord x) ps)
      by (word v) e h ih =
          on v e (begins_with p (word v) e) (not-false (has_word (words_for t) v) (or_left (not (has_word (words_for t) v)) (among (NotWord t) ps) h))
          (ih (or_right (not (has_word (words_for t) v)) (among (NotWord t) ps) h))
      by (symbol y) e h ih = let z : ◌≡◌ {A = ℕ} 0 1 = cc in absurd (omega arith)

  no_words : {ps : List Part} {qs : List Qualifier} → Each ps qs → among (NotWord t) ps ≡ true → (given : List (List ℕ)) → each_of word_of qs ≡ Some given → all_of (has_word (words_for t)) given ≡ false
  no_words each_none h given f = cc
  no_words (each_more {p = p} {q = q} {ps = ps} {qs = qs} e r) h given f = by q (rw e at h) (each_of word_of qs) f (λ k vs g. no_words r k vs g)
    where
      after_one : (b : Bool) (vs : List (List ℕ)) → not b || among (NotWord t) ps ≡ true
          → (among (NotWord t) ps ≡ true → all_of (has_word (words_for t)) vs ≡ false) → b && all_of (has_word (words_for t)) vs ≡ false
      after_one true vs h ih = ih h
      after_one false vs h ih = refl

      by : (q : Qualifier) → holds_of (NotWord t) (Some q) || among (NotWord t) ps ≡ true → (o : Option (List (List ℕ))) → cons_both (word_of q) o ≡ Some given
          → (among (NotWord t) ps ≡ true → (vs : List (List ℕ)) → o ≡ Some vs → all_of (has_word (words_for t)) vs ≡ false) → all_of (has_word (words_for t)) given ≡ false
      by (word v) h None f ih = cc
      by (word v) h (Some vs) f ih = let m : v ∷ vs ≡ given = cc in rw (← m) (after_one (has_word (words_for t) v) vs h (λ k. ih k vs refl))
      by (symbol y) h o f ih = cc

-- What the crates above use. First: some qualifier breaks the grammar, or none does.
pub ill_formed : (s : List ℕ) (a b : ℕ) → any_in Malformed s a b ≡ true → each_of qualifier (pieces_in s a b) ≡ None
ill_formed s a b h = no_qualifiers (pieces_in s a b) h

pub well_formed : (s : List ℕ) (a b : ℕ) → any_in Malformed s a b ≡ false → (qs : List Qualifier) × (each_of qualifier (pieces_in s a b) ≡ Some qs)
well_formed s a b h = all_qualifiers (pieces_in s a b) h

module _ (s : List ℕ) (a b : ℕ) (qs : List Qualifier) (e : each_of qualifier (pieces_in s a b) ≡ Some qs) where
  pub not_known : any_in Unknown s a b ≡ any_of unknown_word qs
  not_known = unknowns (each (pieces_in s a b) qs e)

  -- a qualifier that is no symbol of the width, or no word of the type, is not allowed
  pub symbols_refused : (w : ℕ) → any_in (NotSymbol (256 ^ w)) s a b ≡ true → allowed (symbols w) qs ≡ None
  symbols_refused w h = rw (no_symbols w (each (pieces_in s a b) qs e) h)

  pub words_refused : (t : Words) (f : List (List ℕ) → Option Kind) → any_in (NotWord t) s a b ≡ true → allowed (words (words_for t) f) qs ≡ None
  words_refused t f h = by (each_of word_of qs) (no_words t (each (pieces_in s a b) qs e) h)
    where
      by : (o : Option (List (List ℕ))) → ((given : List (List ℕ)) → o ≡ Some given → all_of (has_word (words_for t)) given ≡ false)
          → (o >>= λ given. cond (all_of (has_word (words_for t)) given && not (twice same_octets given)) (f given) None) ≡ None
      by None k = refl
      by (Some given) k = rw (k given refl)

-- Symbols of a width, and nothing else.
pub record Symbols (w : ℕ) (s : List ℕ) (a b : ℕ) : Type 0 where
  pub qualifiers : List Qualifier
  pub found : each_of qualifier (pieces_in s a b) ≡ Some qualifiers
  pub known : any_of unknown_word qualifiers ≡ false
  pub given : List Symbol
  pub all : each_of (symbol_of w) qualifiers ≡ Some given
  pub once : twice same_symbol given ≡ twice_in true s a b

-- Words of a type, and nothing else.
pub record Listed (t : Words) (s : List ℕ) (a b : ℕ) : Type 0 where
  pub qualifiers : List Qualifier
  pub found : each_of qualifier (pieces_in s a b) ≡ Some qualifiers
  pub known : any_of unknown_word qualifiers ≡ false
  pub given : List (List ℕ)
  pub all : each_of word_of qualifiers ≡ Some given
  pub taken : all_of (has_word (words_for t)) given ≡ true
  pub once : twice same_octets given ≡ twice_in false s a b
  pub has : (x : ℕ) → has_word given (x ∷ []) ≡ any_in (IsWord x) s a b
  pub some_given : null given ≡ false

pub symbols_given : (w : ℕ) (s : List ℕ) (a b : ℕ) → any_in (NotSymbol (256 ^ w)) s a b ≡ false → Symbols w s a b
symbols_given w s a b h = by (well_formed s a b (weaker (NotSymbol (256 ^ w)) Malformed (symbol_formed (256 ^ w)) (pieces_in s a b) h))
  where
    on : (qs : List Qualifier) → each_of qualifier (pieces_in s a b) ≡ Some qs
        → (l : List Symbol) × (each_of (symbol_of w) qs ≡ Some l) × (map (λ y. y.spelling.octets) l ≡ map name_in (pieces_in s a b)) → Symbols w s a b
    on qs e r = record {
      qualifiers = qs;
      found = e;
      known = sym (not_known s a b qs e) ∙ weaker (NotSymbol (256 ^ w)) Unknown (symbol_known (256 ^ w)) (pieces_in s a b) h;
      given = r.0;
      all = r.1;
      once = twice_map same_word (λ y. y.spelling.octets) r.0 ∙ ap (twice same_word) r.2;
    }

    by : (qs : List Qualifier) × (each_of qualifier (pieces_in s a b) ≡ Some qs) → Symbols w s a b
    by r = on r.0 r.1 (all_symbols w (each (pieces_in s a b) r.0 r.1) h)

pub words_given : (t : Words) (s : List ℕ) (a b : ℕ) → any_in (NotWord t) s a b ≡ false → Listed t s a b
words_given t s a b h = by (well_formed s a b (weaker (NotWord t) Malformed (word_formed t) (pieces_in s a b) h))
  where
    on : (qs : List Qualifier) → each_of qualifier (pieces_in s a b) ≡ Some qs
        → (each_of word_of qs ≡ Some (map name_in (pieces_in s a b))) × (all_of (has_word (words_for t)) (map name_in (pieces_in s a b)) ≡ true)
        × ((x : ℕ) → has_word (map name_in (pieces_in s a b)) (x ∷ []) ≡ among (IsWord x) (pieces_in s a b)) → Listed t s a b
    on qs e r = record {
      qualifiers = qs;
      found = e;
      known = sym (not_known s a b qs e) ∙ weaker (NotWord t) Unknown (word_known t) (pieces_in s a b) h;
      given = map name_in (pieces_in s a b);
      all = r.0;
      taken = r.1;
      once = refl;
      has = r.2;
      some_given = map_some name_in (pieces_in s a b) (placed_some a (split_on 44 (slice a b s)) (split_some (λ x. eqb x 44) (slice a b s)));
    }

    by : (qs : List Qualifier) × (each_of qualifier (pieces_in s a b) ≡ Some qs) → Listed t s a b
    by r = on r.0 r.1 (all_words t (each (pieces_in s a b) r.0 r.1) h)
