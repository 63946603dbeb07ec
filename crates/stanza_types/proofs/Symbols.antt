-- An integer's symbols are those listed among its qualifiers.
use Prim.Native.Nat.{ℕ}
use mathlib.Core.Path.{◌≡◌, refl, sym, ap, ◌∙◌}
use mathlib.Core.Bool.{Bool, true, false, not, cond, ◌&&◌, true≢false}
use mathlib.Core.List.{List}
use Rattle.std.specs.Prelude.{Option, None, Some}
use Rattle.format.specs.Lists.{◌>>=◌, each_of, any_of, all_of, twice}
use Rattle.format.specs.Octets.{same_octets}
use Rattle.format.specs.Field.{Symbol, Kind, int}
use Rattle.format.specs.Grammar.{Qualifier}
use Rattle.format.specs.Types.{Takes, symbols, words, has_word, type_rows, takes_of, unknown_word, symbol_of, word_of, same_symbol, allowed, unknown, means, or_forbidden, meaning_of, meaning}
use Rattle.format.proofs.Lists.{bind_some, provided_some}
use Rattle.stanza_words.specs.Qualifiers.{qualifiers_in}
use Rattle.stanza_types.specs.Types.{meaning_in}
use Rattle.stanza_form.specs.Forms.{symbols_in}
use Rattle.stanza_form.proofs.Forms.{Wordy, rows_wordy, row_of}

-- so an integer is made of symbols
allowed_symbols : (t : Takes) → Wordy t → (qs : List Qualifier) (w : ℕ) (l : List Symbol) → allowed t qs ≡ Some (int w l) → each_of (symbol_of w) qs ≡ Some l
allowed_symbols (symbols v) h qs w l e =
    let (m, a, b) = bind_some (each_of (symbol_of v) qs) _ (int w l) e in
    let (c, d) = provided_some (not (twice same_symbol m)) (int v m) (int w l) b in
    let p : v ≡ w = cc in
    let q : m ≡ l = cc in
    rw (← p, ← q) a
allowed_symbols (words ws f) h qs w l e =
    let (given, a, b) = bind_some (each_of word_of qs) _ (int w l) e in
    by (all_of (has_word ws) given && not (twice same_octets given)) given b
  where
    by : (c : Bool) (given : List (List ℕ)) → cond c (f given) None ≡ Some (int w l) → each_of (symbol_of w) qs ≡ Some l
    by true given b = absurd (true≢false (h given (int w l) b))
    by false given b = cc

meaning_symbols : (k : List ℕ) (qs : List Qualifier) (w : ℕ) (l : List Symbol) → meaning k qs ≡ means (int w l) → each_of (symbol_of w) qs ≡ Some l
meaning_symbols k qs w l e = by (takes_of type_rows k) refl e
  where
    on : (t : Takes) → Wordy t → (o : Option Kind) → allowed t qs ≡ o → or_forbidden o ≡ means (int w l) → each_of (symbol_of w) qs ≡ Some l
    on t h None a e = cc
    on t h (Some j) a e = let p : j ≡ int w l = cc in allowed_symbols t h qs w l (a ∙ ap Some p)

    known : (t : Takes) → Wordy t → (b : Bool) → cond b unknown (or_forbidden (allowed t qs)) ≡ means (int w l) → each_of (symbol_of w) qs ≡ Some l
    known t h true e = cc
    known t h false e = on t h (allowed t qs) refl e

    by : (o : Option Takes) → takes_of type_rows k ≡ o → meaning_of o qs ≡ means (int w l) → each_of (symbol_of w) qs ≡ Some l
    by None a e = cc
    by (Some t) a e = known t (row_of type_rows rows_wordy k t a) (any_of unknown_word qs) e

-- the symbols of an integer field are those listed from a to b
pub symbols_listed : (k s : List ℕ) (a b : ℕ) (j : Kind) → Some (means j) ≡ meaning_in k s a b → (w : ℕ) (l : List Symbol) → j ≡ int w l → symbols_in w s a b ≡ Some l
symbols_listed k s a b j e w l q = by (qualifiers_in s a b) (sym e)
  where
    by : (o : Option (List Qualifier)) → (o >>= λ qs. Some (meaning k qs)) ≡ Some (means j) → (o >>= each_of (symbol_of w)) ≡ Some l
    by None e = cc
    by (Some qs) e = let z : meaning k qs ≡ means j = cc in meaning_symbols k qs w l (z ∙ ap means q)
