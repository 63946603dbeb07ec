-- What a type with its qualifiers means, by the tests of the qualifiers.
use Prim.Native.Nat.{ℕ, zero, suc, ◌*◌, ◌%◌, ◌≤◌, ◌<◌, ◌^◌}
use mathlib.Core.Path.{◌≡◌, refl, ap}
use mathlib.Core.Bool.{Bool, true, false, not, cond, ◌&&◌, true≢false}
use mathlib.Core.List.{List, [], ◌∷◌}
use Rattle.std.specs.Prelude.{Option, None, Some, Result, Ok, Err}
use native.Mathlib.Omega.{arith}
use lib.Dec.{eqb}
use borrow.Author.Tests.{eq-eqb, ne_eqb}
use lib.Seq.{slice}
use Rattle.format.specs.Lists.{◌>>=◌, cons_both, each_of, any_of, all_of, twice, provided, null}
use Rattle.format.specs.Octets.{same_octets, split_on}
use Rattle.format.specs.Field.{Part, Kind, Symbol, name, rrtype, bitmap, str, strs, raw, hex, hexc}
use Rattle.format.specs.Grammar.{Qualifier, qualifier}
use Rattle.format.specs.Types.{Takes, symbols, words, no_words, has_word, name_kind, string_kind, unknown_word, word_of, allowed, unknown, forbidden, means, or_forbidden, meaning_of, type_rows, takes_of}
use Rattle.format.proofs.Lists.{split_some, placed_some}
use Rattle.stanza_words.specs.Qualifiers.{pieces_in, qualifiers_in, any_in, twice_in, words_for}
use Rattle.stanza_words.specs.declared.Words.{Words}
use Rattle.stanza_words.specs.declared.Words.TheVariants.{OnR, OnN, OnS, OnX}
use Rattle.stanza_words.specs.declared.Test.TheVariants.{Malformed, Unknown, NotSymbol, NotWord, IsWord}
use Rattle.stanza_words.proofs.Given.{ill_formed, well_formed, not_known, symbols_refused, words_refused, symbols_given, words_given}
use Rattle.stanza_form.specs.declared.Form.{Form}
use Rattle.stanza_form.specs.declared.Form.TheVariants.{Int, Name, Str, Strs, Raw}
use Rattle.stanza_types.specs.declared.Misuse.{Misuse}
use Rattle.stanza_types.specs.declared.Misuse.TheVariants.{Forbidden}
use Rattle.stanza_types.specs.Types.{meant_in, meaning_by, qualified_in, meaning_in, marks_of, made_of}
use Rattle.stanza_form.specs.Forms.{kind_of, kind_in, listed}

-- a number of octets in bits
pub limit_is : (w : ℕ) → w ≤ 4 → 1 * 2 ^ (8 * w) % 18446744073709551616 ≡ 256 ^ w
limit_is zero h = refl
limit_is (suc zero) h = refl
limit_is (suc (suc zero)) h = refl
limit_is (suc (suc (suc zero))) h = refl
limit_is (suc (suc (suc (suc zero)))) h = refl
limit_is (suc (suc (suc (suc (suc w))))) h = absurd (omega arith)

-- qualifiers that break the grammar; that are unknown; that are known but not allowed
module _ (f : List Qualifier → Option Kind) (s : List ℕ) (a b : ℕ) where
  pub malformed : any_in Malformed s a b ≡ true → None ≡ meaning_by f s a b
  malformed h = rw (ill_formed s a b h)

  pub not_of_known : any_in Malformed s a b ≡ false → any_in Unknown s a b ≡ true → Some unknown ≡ meaning_by f s a b
  not_of_known h k = let (qs, e) = well_formed s a b h in rw (e, ← (not_known s a b qs e), k)

  pub not_allowed : any_in Malformed s a b ≡ false → any_in Unknown s a b ≡ false → ((qs : List Qualifier) → each_of qualifier (pieces_in s a b) ≡ Some qs → f qs ≡ None) → Some forbidden ≡ meaning_by f s a b
  not_allowed h k n = let (qs, e) = well_formed s a b h in rw (e, ← (not_known s a b qs e), k, n qs e)

  -- if these qualifiers are not allowed, it does not matter what others would make
  pub as_refused : ((qs : List Qualifier) → each_of qualifier (pieces_in s a b) ≡ Some qs → f qs ≡ None) → meaning_by (λ qs. None) s a b ≡ meaning_by f s a b
  as_refused n = by (each_of qualifier (pieces_in s a b)) refl
    where
      by : (o : Option (List Qualifier)) → each_of qualifier (pieces_in s a b) ≡ o → (o >>= λ qs. Some (cond (any_of unknown_word qs) unknown (or_forbidden None))) ≡ (o >>= λ qs. Some (cond (any_of unknown_word qs) unknown (or_forbidden (f qs))))
      by None e = refl
      by (Some qs) e = rw (n qs e)

-- the qualifiers of a part that is not empty
given_in : (s : List ℕ) (a b : ℕ) → a < b → qualifiers_in s a b ≡ each_of qualifier (pieces_in s a b)
given_in s a b h = rw (ne_eqb a b (λ e. omega arith))

-- symbols of integers
module _ (w : ℕ) (s : List ℕ) (a b : ℕ) where
  pub no_symbols : any_in (NotSymbol (256 ^ w)) s a b ≡ true → meaning_by (λ qs. None) s a b ≡ meaning_by (allowed (symbols w)) s a b
  no_symbols h = as_refused (allowed (symbols w)) s a b (λ qs e. symbols_refused s a b qs e w h)

  pub symbols_twice : any_in (NotSymbol (256 ^ w)) s a b ≡ false → twice_in true s a b ≡ true → Some forbidden ≡ meaning_by (allowed (symbols w)) s a b
  symbols_twice h t = let g = symbols_given w s a b h in rw (g.found, g.known, g.all, g.once, t)

  pub symbols_once : a < b → any_in (NotSymbol (256 ^ w)) s a b ≡ false → twice_in true s a b ≡ false → Some (means (kind_in s a b (Int w))) ≡ meaning_by (allowed (symbols w)) s a b
  symbols_once l h t = let g = symbols_given w s a b h in rw (given_in s a b l, g.found, g.known, g.all, g.once, t)

-- words of the other types
listed_words : (t : Words) → (f : List (List ℕ) → Option Kind) × (listed t ≡ words (words_for t) f)
listed_words OnR = ((λ given. Some (cond (null given) rrtype bitmap)), refl)
listed_words OnN = ((λ given. Some (name_kind given)), refl)
listed_words OnS = (string_kind, refl)
listed_words OnX = ((λ given. Some (cond (null given) hex hexc)), refl)

module _ (t : Words) (s : List ℕ) (a b : ℕ) where
  pub no_words_lem : any_in (NotWord t) s a b ≡ true → meaning_by (λ qs. None) s a b ≡ meaning_by (allowed (listed t)) s a b
  no_words_lem h = let (f, e) = listed_words t in rw e (as_refused (allowed (words (words_for t) f)) s a b (λ qs q. words_refused s a b qs q t f h))

  pub words_twice : any_in (NotWord t) s a b ≡ false → twice_in false s a b ≡ true → Some forbidden ≡ meaning_by (allowed (listed t)) s a b
  words_twice h k = let (f, e) = listed_words t in let g = words_given t s a b h in rw (e, g.found, g.known, g.all, g.taken, g.once, k)

-- a name's marks
kind_marks : (l : List Symbol) (c a i o : Bool) → kind_of l (Name (marks_of c a i o)) ≡ name (record { compressed = c; mailbox = a; lower_case = i; optional = o })
kind_marks l true true true true = refl
kind_marks l true true true false = refl
kind_marks l true true false true = refl
kind_marks l true true false false = refl
kind_marks l true false true true = refl
kind_marks l true false true false = refl
kind_marks l true false false true = refl
kind_marks l true false false false = refl
kind_marks l false true true true = refl
kind_marks l false true true false = refl
kind_marks l false true false true = refl
kind_marks l false true false false = refl
kind_marks l false false true true = refl
kind_marks l false false true false = refl
kind_marks l false false false true = refl
kind_marks l false false false false = refl

pub words_once : (t : Words) (s : List ℕ) (a b : ℕ) → any_in (NotWord t) s a b ≡ false → twice_in false s a b ≡ false → meant_in s a b (made_of s a b t) ≡ meaning_by (allowed (listed t)) s a b
words_once OnR s a b h k = let g = words_given OnR s a b h in rw (g.found, g.known, g.all, g.taken, g.once, k, g.some_given)
words_once OnN s a b h k = let g = words_given OnN s a b h in rw (g.found, g.known, g.all, g.taken, g.once, k, g.has 67, g.has 65, g.has 76, g.has 79) (ap (λ k. Some (means k)) (kind_marks [] (any_in (IsWord 67) s a b) (any_in (IsWord 65) s a b) (any_in (IsWord 76) s a b) (any_in (IsWord 79) s a b)))
words_once OnS s a b h k = let g = words_given OnS s a b h in rw (g.found, g.known, g.all, g.taken, g.once, k, g.has 77, g.has 88) (by (any_in (IsWord 77) s a b) (any_in (IsWord 88) s a b))
  where
    by : (m x : Bool) → meant_in s a b (cond m (cond x (Err Forbidden) (Ok Strs)) (cond x (Ok Raw) (Ok Str)))
        ≡ Some (or_forbidden (cond m (provided (not x) strs) (Some (cond x raw str))))
    by true true = refl
    by true false = refl
    by false true = refl
    by false false = refl
words_once OnX s a b h k = let g = words_given OnX s a b h in rw (g.found, g.known, g.all, g.taken, g.once, k, g.some_given)

-- a part has at least one qualifier
some_each : (ps : List Part) (qs : List Qualifier) → null ps ≡ false → each_of qualifier ps ≡ Some qs → null qs ≡ false
some_each [] qs h e = absurd (true≢false h)
some_each (p ∷ ps) qs h e = by (qualifier p) (each_of qualifier ps) e
  where
    by : (o : Option Qualifier) (os : Option (List Qualifier)) → cons_both o os ≡ Some qs → null qs ≡ false
    by None os e = cc
    by (Some x) None e = cc
    by (Some x) (Some xs) e = let q : x ∷ xs ≡ qs = cc in rw (← q)

none_allowed : (k : Kind) (qs : List Qualifier) → null qs ≡ false → allowed (no_words k) qs ≡ None
none_allowed k [] h = absurd (true≢false h)
none_allowed k (q ∷ qs) h = by (word_of q) (each_of word_of qs)
  where
    by : (o : Option (List ℕ)) (os : Option (List (List ℕ))) → (cons_both o os >>= λ given. cond (all_of (has_word []) given && not (twice same_octets given)) (Some k) None) ≡ None
    by None os = refl
    by (Some w) None = refl
    by (Some w) (Some ws) = refl

-- a type that takes no qualifier, given some
pub nothing_taken : (k : Kind) (s : List ℕ) (a b : ℕ) → meaning_by (λ qs. None) s a b ≡ qualified_in (Some (no_words k)) s a b
nothing_taken k s a b = as_refused (allowed (no_words k)) s a b (λ qs e. none_allowed k qs (some_each (pieces_in s a b) qs (placed_some a (split_on 44 (slice a b s)) (split_some (λ x. eqb x 44) (slice a b s))) e))

-- a form without qualifiers has the kind without symbols
pub plain_kind : (s : List ℕ) (a : ℕ) (f : Form) → Some (means (kind_in s a a f)) ≡ Some (means (kind_of [] f))
plain_kind s a f = rw (eq-eqb a a refl)

-- an unknown type
pub no_type_malformed : (s : List ℕ) (a b : ℕ) → any_in Malformed s a b ≡ true → None ≡ qualified_in None s a b
no_type_malformed s a b h = rw (ill_formed s a b h)

pub no_type : (s : List ℕ) (a b : ℕ) → any_in Malformed s a b ≡ false → Some unknown ≡ qualified_in None s a b
no_type s a b h = let (qs, e) = well_formed s a b h in rw e

-- a type without qualifiers, and with some
module _ (k s : List ℕ) (a b : ℕ) (o : Option Takes) (t : o ≡ takes_of type_rows k) (m : Result Form Misuse) where
  pub plain_in : a ≡ b → ((s : List ℕ) (a : ℕ) → meant_in s a a m ≡ Some (meaning_of o [])) → meant_in s a b m ≡ meaning_in k s a b
  plain_in e h = rw (← e, eq-eqb a a refl, ← t) (h s a)

  pub qualified_in_lem : (a ≡ b → ⊥) → meant_in s a b m ≡ qualified_in o s a b → meant_in s a b m ≡ meaning_in k s a b
  qualified_in_lem e h = rw (ne_eqb a b e, ← t) h
