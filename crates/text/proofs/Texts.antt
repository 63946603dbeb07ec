-- The value of a string's token, read by runs of octets that begin no escape.
use Prim.Native.Nat.{ℕ, ◌+◌, ◌≤◌, ◌<◌}
use mathlib.Core.Path.{◌≡◌, refl, sym, ap, ◌∙◌}
use mathlib.Core.Bool.{Bool, true, false, not, ◌||◌}
use mathlib.Core.List.{List, [], ◌∷◌, map, append-nil}
use Rattle.std.specs.Prelude.{Option, None, Some}
use native.Mathlib.Omega.{arith}
use lib.Dec.{eqb}
use lib.ListN.{length, take, drop, get_or}
use lib.Seq.{take_all}
use Rattle.std.proofs.lemmas.List.{drop-drop}
use borrow.Author.Tests.{eq-eqb, eqb-true, eqb-false, ne_eqb}
use Rattle.format.specs.Lists.{◌>>=◌, cons_both, spanning, span}
use Rattle.format.specs.Octets.{among}
use Rattle.format.specs.Token.{bare, quoted, Item, plain, escape, octet_of, outside, slash, unescaped_from}
use Rattle.format.specs.Text.{string_value}
use Rattle.format.proofs.Token.{none_left as nothing-unescaped}
use Rattle.buffer.specs.Writing.{after}
use Rattle.format.proofs.Lists.{drop_next, drop_none}
use Rattle.octets.proofs.Slices.{span_front, span_rest}
use Rattle.escape.specs.Escapes.{no_escape, items_after}
use Rattle.text.specs.Text.{token_of}
use Rattle.buffer.proofs.Values.{after_none, after_after}
use Rattle.escape.proofs.Escapes.{plain_unescaped, slash_unescaped}

-- the octets of items
abbrev octets_of : Option (List Item) → Option (List ℕ)
octets_of o = o >>= λ is. Some (map octet_of is)

octets_cons : (i : Item) (o : Option (List Item)) → octets_of (cons_both (Some i) o) ≡ after (octet_of i ∷ []) (octets_of o)
octets_cons i None = refl
octets_cons i (Some is) = refl

run_unescaped : (xs : List ℕ) → octets_of (unescaped_from outside xs) ≡ after (span no_escape xs).front (octets_of (unescaped_from outside (span no_escape xs).rest))
run_unescaped [] = sym (after_none (octets_of (unescaped_from outside [])))
run_unescaped (x ∷ xs) = by (no_escape x) refl (run_unescaped xs)
  where
    by : (b : Bool) → no_escape x ≡ b → octets_of (unescaped_from outside xs) ≡ after (span no_escape xs).front (octets_of (unescaped_from outside (span no_escape xs).rest))
        → octets_of (unescaped_from outside (x ∷ xs)) ≡ after (spanning b x xs (span no_escape xs)).front (octets_of (unescaped_from outside (spanning b x xs (span no_escape xs)).rest))
    by true e ih = ap octets_of (plain_unescaped x xs e) ∙ octets_cons (plain x) (unescaped_from outside xs) ∙ ap (after (x ∷ [])) ih ∙ after_after (x ∷ []) (span no_escape xs).front (octets_of (unescaped_from outside (span no_escape xs).rest))
    by false e ih = sym (after_none (octets_of (unescaped_from outside (x ∷ xs))))

-- a backslash is among the octets, or not
flip : (x : ℕ) → eqb 92 x ≡ eqb x 92
flip x = by (eqb x 92) refl
  where
    by : (b : Bool) → eqb x 92 ≡ b → eqb 92 x ≡ b
    by true e = eq-eqb 92 x (sym (eqb-true x 92 e))
    by false e = ne_eqb 92 x (λ q. eqb-false x 92 e (sym q))

no_slash : (xs : List ℕ) → length xs ≤ length (span no_escape xs).front → among 92 xs ≡ false
no_slash [] h = refl
no_slash (x ∷ xs) h = rw (flip x) (by (eqb x 92) h (no_slash xs))
  where
    by : (b : Bool) → length (x ∷ xs) ≤ length (spanning (not b) x xs (span no_escape xs)).front → (length xs ≤ length (span no_escape xs).front → among 92 xs ≡ false) → b || among 92 xs ≡ false
    by true h ih = absurd (omega arith)
    by false h ih = ih (omega arith)

some_slash : (xs : List ℕ) → length (span no_escape xs).front < length xs → among 92 xs ≡ true
some_slash [] h = absurd (omega arith)
some_slash (x ∷ xs) h = rw (flip x) (by (eqb x 92) h (some_slash xs))
  where
    by : (b : Bool) → length (spanning (not b) x xs (span no_escape xs)).front < length (x ∷ xs) → (length (span no_escape xs).front < length xs → among 92 xs ≡ true) → b || among 92 xs ≡ true
    by true h ih = refl
    by false h ih = ih (omega arith)

-- a run ends at a backslash or at the end
rest_starts : (xs : List ℕ) → length (span no_escape (span no_escape xs).rest).front ≡ 0
rest_starts [] = refl
rest_starts (x ∷ xs) = by (no_escape x) refl (rest_starts xs)
  where
    by : (b : Bool) → no_escape x ≡ b → length (span no_escape (span no_escape xs).rest).front ≡ 0 → length (span no_escape (spanning b x xs (span no_escape xs)).rest).front ≡ 0
    by true e ih = ih
    by false e ih = rw e

-- a run of n octets
module _ (t : List ℕ) (n : ℕ) (p : n ≡ length (span no_escape t).front) where
  rest_is : (span no_escape t).rest ≡ drop n t
  rest_is = rw p (sym (span_rest no_escape t))

  pub run_value : string_value (quoted t) ≡ after (take n t) (string_value (quoted (drop n t)))
  run_value = run_unescaped t ∙ rw (rest_is, p, span_front no_escape t)

  pub run_stops : length (span no_escape (drop n t)).front ≡ 0
  run_stops = rw (← rest_is) (rest_starts t)

  pub bare_fault : n < length t → string_value (bare t) ≡ None
  bare_fault k = rw (some_slash t (omega arith))

  pub value_all : length t ≤ n → (q : Bool) → string_value (token_of q t) ≡ Some (take n t)
  value_all k true = run_value ∙ rw (drop_none t n k, nothing-unescaped, append-nil (take n t))
  value_all k false = rw (no_slash t (omega arith), take_all n t k)

pub quoted_none : (t : List ℕ) (j : ℕ) → length t ≤ j → string_value (quoted (drop j t)) ≡ Some []
quoted_none t j k = rw (drop_none t j k, nothing-unescaped)

-- an escape at j
module _ (t : List ℕ) (j : ℕ) (h : j < length t) (p : length (span no_escape (drop j t)).front ≡ 0) where
  slash_at : get_or t j 0 ≡ 92
  slash_at = by (eqb (get_or t j 0) 92) refl (rw (drop_next t j h) at p)
    where
      by : (b : Bool) → eqb (get_or t j 0) 92 ≡ b → length (spanning (not b) (get_or t j 0) (drop (j + 1) t) (span no_escape (drop (j + 1) t))).front ≡ 0 → get_or t j 0 ≡ 92
      by true f q = eqb-true (get_or t j 0) 92 f
      by false f q = absurd (omega arith)

  from_slash : (r : Option (ℕ × ℕ)) → unescaped_from slash (drop (j + 1) t) ≡ items_after (drop (j + 1) t) r → unescaped_from outside (drop j t) ≡ items_after (drop (j + 1) t) r
  from_slash r q = ap (unescaped_from outside) (drop_next t j h ∙ ap (λ x. x ∷ drop (j + 1) t) slash_at) ∙ slash_unescaped (drop (j + 1) t) ∙ q

  pub escape_fault : unescaped_from slash (drop (j + 1) t) ≡ None → string_value (quoted (drop j t)) ≡ None
  escape_fault q = ap octets_of (from_slash None q)

  pub escape_octet : (b k : ℕ) → unescaped_from slash (drop (j + 1) t) ≡ items_after (drop (j + 1) t) (Some (b, k))
      → string_value (quoted (drop j t)) ≡ after (b ∷ []) (string_value (quoted (drop (j + 1 + k) t)))
  escape_octet b k q =
      ap octets_of (from_slash (Some (b, k)) q) ∙ octets_cons (escape b) (unescaped_from outside (drop k (drop (j + 1) t)))
      ∙ ap (λ s. after (b ∷ []) (string_value (quoted s))) (drop-drop k (j + 1) t)
