-- All tokens of a text, joined: for a reader that fails at any octet but its own, they are the text without its blanks.
use Prim.Native.Nat.{ℕ, ◌+◌, ◌≤◌, ◌<◌}
use mathlib.Core.Path.{◌≡◌, refl, sym, ap, ◌∙◌}
use mathlib.Core.Bool.{Bool, true, false, not, cond, ◌&&◌}
use mathlib.Core.List.{List, [], ◌∷◌, ◌++◌, append_assoc}
use Rattle.std.specs.Prelude.{Option, None, Some}
use native.Mathlib.Omega.{arith}
use lib.Dec.{eqb}
use lib.ListN.{length}
use Rattle.format.specs.Lists.{◌>>=◌, cons_both, each_of, null, flat}
use Rattle.format.specs.Octets.{blank}
use Rattle.format.specs.Token.{Token, bare, quoted, broken, Scan, between, in_bare, in_quotes, closed, keep, skip, end_bare, end_quoted, breaks, text_octet, quote_mark, guarded, scan_step, into_first, after_scan, scanned, tokens}
use Rattle.format.specs.Text.{not_empty}
use Rattle.format.specs.Run.{Got, no_token, bad_token, got, got_or, bare_of, joined_bares}
use Rattle.format.proofs.Token.{plainly, in_bare_lem, from_between}
use Rattle.base_group.specs.Group.{without}
use Rattle.buffer.specs.Writing.{after}

-- the octets of tokens, if all are bare
abbrev joined : List Token → Option (List ℕ)
joined ts = each_of bare_of ts >>= λ l. Some (flat l)

-- the first token is bare or broken; quoted or broken
data BareFirst : List Token → Type 0 where
  bare_first : (t : List ℕ) (ts : List Token) → BareFirst (bare t ∷ ts)
  bare_broken : (ts : List Token) → BareFirst (broken ∷ ts)

data OtherFirst : List Token → Type 0 where
  quoted_first : (t : List ℕ) (ts : List Token) → OtherFirst (quoted t ∷ ts)
  other_broken : (ts : List Token) → OtherFirst (broken ∷ ts)

bare_into : (x : ℕ) (ts : List Token) → BareFirst ts → BareFirst (into_first x ts)
bare_into x ts (bare_first t us) = bare_first (x ∷ t) us
bare_into x ts (bare_broken us) = bare_broken us

other_into : (x : ℕ) (ts : List Token) → OtherFirst ts → OtherFirst (into_first x ts)
other_into x ts (quoted_first t us) = quoted_first (x ∷ t) us
other_into x ts (other_broken us) = other_broken us

bare_scan : (e : Bool) (s : List ℕ) → BareFirst (scanned (in_bare e) s)
unfolding scanned
bare_scan true [] = bare_broken []
bare_scan false [] = bare_first [] []
bare_scan true (x ∷ s) = by (text_octet x) (bare_scan false s)
  where
    by : (b : Bool) → BareFirst (scanned (in_bare false) s) → BareFirst (after_scan x (cond b (keep (in_bare false)) breaks) (λ t. scanned t s))
    by true h = bare_into x (scanned (in_bare false) s) h
    by false h = bare_broken []
bare_scan false (x ∷ s) = by (blank x) (text_octet x && not (guarded x)) (eqb x 92) (λ e. bare_scan e s)
  where
    by : (a b c : Bool) → ((e : Bool) → BareFirst (scanned (in_bare e) s)) → BareFirst (after_scan x (cond a end_bare (cond b (keep (in_bare c)) breaks)) (λ t. scanned t s))
    by true b c h = bare_first [] (scanned between s)
    by false true c h = bare_into x (scanned (in_bare c) s) (h c)
    by false false c h = bare_broken []

closed_scan : (s : List ℕ) → OtherFirst (scanned closed s)
unfolding scanned
closed_scan [] = quoted_first [] []
closed_scan (x ∷ s) = by (blank x)
  where
    by : (b : Bool) → OtherFirst (after_scan x (cond b end_quoted breaks) (λ t. scanned t s))
    by true = quoted_first [] (scanned between s)
    by false = other_broken []

quoted_scan : (q : ℕ) (e : Bool) (s : List ℕ) → OtherFirst (scanned (in_quotes q e) s)
unfolding scanned
quoted_scan q e [] = other_broken []
quoted_scan q true (x ∷ s) = by (text_octet x) (quoted_scan q false s)
  where
    by : (b : Bool) → OtherFirst (scanned (in_quotes q false) s) → OtherFirst (after_scan x (cond b (keep (in_quotes q false)) breaks) (λ t. scanned t s))
    by true h = other_into x (scanned (in_quotes q false) s) h
    by false h = other_broken []
quoted_scan q false (x ∷ s) = by (eqb x q) (text_octet x) (eqb x 92) (λ e. quoted_scan q e s)
  where
    by : (a b c : Bool) → ((e : Bool) → OtherFirst (scanned (in_quotes q e) s)) → OtherFirst (after_scan x (cond a (skip closed) (cond b (keep (in_quotes q c)) breaks)) (λ t. scanned t s))
    by true b c h = closed_scan s
    by false true c h = other_into x (scanned (in_quotes q c) s) (h c)
    by false false c h = other_broken []

joined_into : (x : ℕ) (ts : List Token) → BareFirst ts → joined (into_first x ts) ≡ after (x ∷ []) (joined ts)
joined_into x ts (bare_first t us) = by (each_of bare_of us)
  where
    by : (o : Option (List (List ℕ))) → (cons_both (Some (x ∷ t)) o >>= λ l. Some (flat l)) ≡ after (x ∷ []) (cons_both (Some t) o >>= λ l. Some (flat l))
    by None = refl
    by (Some l) = refl
joined_into x ts (bare_broken us) = refl

joined_end : (ts : List Token) → joined (bare [] ∷ ts) ≡ joined ts
joined_end ts = by (each_of bare_of ts)
  where
    by : (o : Option (List (List ℕ))) → (cons_both (Some []) o >>= λ l. Some (flat l)) ≡ (o >>= λ l. Some (flat l))
    by None = refl
    by (Some l) = refl

joined_other : (ts : List Token) → OtherFirst ts → joined ts ≡ None
joined_other ts (quoted_first t us) = refl
joined_other ts (other_broken us) = refl

-- between tokens, or in a bare one after no backslash
abbrev place : Bool → Scan
place true = in_bare false
place false = between

-- a reader's answer for the joined octets of all tokens
abbrev pub joined_text : (List ℕ → Option (List ℕ)) → List ℕ → Got
joined_text f [] = no_token
joined_text f (x ∷ xs) = got_or (f (x ∷ xs) >>= not_empty) []

module _ (f : List ℕ → Option (List ℕ)) (good : ℕ → Bool) (plain : (x : ℕ) → good x ≡ true → plainly x ≡ true) (bad : (p : List ℕ) (x : ℕ) (ys : List ℕ) → good x ≡ false → f (p ++ x ∷ ys) ≡ None) where
  abbrev read_from : List ℕ → List Token → Option (List ℕ)
  read_from p ts = joined ts >>= λ ys. f (p ++ ys)

  bad_into : (p : List ℕ) (x : ℕ) (o : Option (List ℕ)) → good x ≡ false → (after (x ∷ []) o >>= λ ys. f (p ++ ys)) ≡ None
  bad_into p x None h = refl
  bad_into p x (Some ys) h = bad p x ys h

  bad_bare : (p : List ℕ) (x : ℕ) (s : List ℕ) (c e : Bool) → good x ≡ false → read_from p (after_scan x (cond c (keep (in_bare e)) breaks) (λ t. scanned t s)) ≡ None
  bad_bare p x s true e h = ap (λ o. o >>= λ ys. f (p ++ ys)) (joined_into x (scanned (in_bare e) s) (bare_scan e s)) ∙ bad_into p x (joined (scanned (in_bare e) s)) h
  bad_bare p x s false e h = refl

  bad_between : (p : List ℕ) (x : ℕ) (s : List ℕ) (q c e : Bool) → good x ≡ false → read_from p (after_scan x (cond q (skip (in_quotes x false)) (cond c (keep (in_bare e)) breaks)) (λ t. scanned t s)) ≡ None
  bad_between p x s true c e h = ap (λ o. o >>= λ ys. f (p ++ ys)) (joined_other (scanned (in_quotes x false) s) (quoted_scan x false s))
  bad_between p x s false c e h = bad_bare p x s c e h

  good_into : (p : List ℕ) (x : ℕ) (o : Option (List ℕ)) → (after (x ∷ []) o >>= λ ys. f (p ++ ys)) ≡ (o >>= λ ys. f ((p ++ x ∷ []) ++ ys))
  good_into p x None = refl
  good_into p x (Some ys) = ap f (sym (append_assoc p (x ∷ []) ys))

  good_bare : (p : List ℕ) (x : ℕ) (s : List ℕ) → read_from (p ++ x ∷ []) (scanned (in_bare false) s) ≡ f ((p ++ x ∷ []) ++ without blank s) → read_from p (into_first x (scanned (in_bare false) s)) ≡ f (p ++ x ∷ without blank s)
  good_bare p x s ih =
      ap (λ o. o >>= λ ys. f (p ++ ys)) (joined_into x (scanned (in_bare false) s) (bare_scan false s)) ∙ good_into p x (joined (scanned (in_bare false) s)) ∙ ih
      ∙ ap f (append_assoc p (x ∷ []) (without blank s))

  reads : (b : Bool) (s p : List ℕ) → read_from p (scanned (place b) s) ≡ f (p ++ without blank s)
  unfolding scanned
  reads true [] p = refl
  reads false [] p = refl
  reads true (x ∷ s) p = by (blank x) (good x) refl refl (reads false s p) (reads true s (p ++ x ∷ []))
    where
      by : (a g : Bool) → blank x ≡ a → good x ≡ g → read_from p (scanned between s) ≡ f (p ++ without blank s) → read_from (p ++ x ∷ []) (scanned (in_bare false) s) ≡ f ((p ++ x ∷ []) ++ without blank s)
          → read_from p (after_scan x (scan_step (in_bare false) x) (λ t. scanned t s)) ≡ f (p ++ cond (blank x) (without blank s) (x ∷ without blank s))
      by true g e k h i = rw e (ap (λ o. o >>= λ ys. f (p ++ ys)) (joined_end (scanned between s)) ∙ h)
      by false true e k h i = rw (in_bare_lem x (plain x k), e) (good_bare p x s i)
      by false false e k h i = rw e (bad_bare p x s (text_octet x && not (guarded x)) (eqb x 92) k ∙ sym (bad p x (without blank s) k))
  reads false (x ∷ s) p = by (blank x) (good x) refl refl (reads false s p) (reads true s (p ++ x ∷ []))
    where
      by : (a g : Bool) → blank x ≡ a → good x ≡ g → read_from p (scanned between s) ≡ f (p ++ without blank s) → read_from (p ++ x ∷ []) (scanned (in_bare false) s) ≡ f ((p ++ x ∷ []) ++ without blank s)
          → read_from p (after_scan x (scan_step between x) (λ t. scanned t s)) ≡ f (p ++ cond (blank x) (without blank s) (x ∷ without blank s))
      by true g e k h i = rw e h
      by false true e k h i = rw (from_between x (plain x k), e) (good_bare p x s i)
      by false false e k h i = rw e (bad_between p x s (quote_mark x) (text_octet x && not (guarded x)) (eqb x 92) k ∙ sym (bad p x (without blank s) k))

bare_some : (ts : List Token) → BareFirst ts → null ts ≡ false
bare_some ts (bare_first t us) = refl
bare_some ts (bare_broken us) = refl

other_some : (ts : List Token) → OtherFirst ts → null ts ≡ false
other_some ts (quoted_first t us) = refl
other_some ts (other_broken us) = refl

same_null : (s : List ℕ) → null (scanned between s) ≡ null (without blank s)
unfolding scanned
same_null [] = refl
same_null (x ∷ s) = by (blank x) (quote_mark x) (text_octet x && not (guarded x)) (eqb x 92) (same_null s)
  where
    by : (a b c d : Bool) → null (scanned between s) ≡ null (without blank s)
        → null (after_scan x (cond a (skip between) (cond b (skip (in_quotes x false)) (cond c (keep (in_bare d)) breaks))) (λ t. scanned t s)) ≡ null (cond a (without blank s) (x ∷ without blank s))
    by true b c d h = h
    by false true c d h = other_some (scanned (in_quotes x false) s) (quoted_scan x false s)
    by false false true d h = bare_some (into_first x (scanned (in_bare d) s)) (bare_into x (scanned (in_bare d) s) (bare_scan d s))
    by false false false d h = refl

module _ (f : List ℕ → Option (List ℕ)) (good : ℕ → Bool) (plain : (x : ℕ) → good x ≡ true → plainly x ≡ true) (bad : (p : List ℕ) (x : ℕ) (ys : List ℕ) → good x ≡ false → f (p ++ x ∷ ys) ≡ None) where
  pub joined_is : (s : List ℕ) → joined_bares f (tokens s) ≡ joined_text f (without blank s)
  joined_is s = by (tokens s) (without blank s) (same_null s) (reads f good plain bad false s [])
    where
      of : (o : Option (List (List ℕ))) → (o >>= λ l. f (flat l) >>= not_empty) ≡ ((o >>= λ l. Some (flat l)) >>= f >>= not_empty)
      of None = refl
      of (Some l) = refl

      by : (ts : List Token) (xs : List ℕ) → null ts ≡ null xs → (joined ts >>= f) ≡ f xs → joined_bares f ts ≡ joined_text f xs
      by [] [] n e = refl
      by [] (x ∷ xs) n e = cc
      by (t ∷ ts) [] n e = cc
      by (t ∷ ts) (x ∷ xs) n e = ap (λ o. got_or o []) (of (each_of bare_of (t ∷ ts)) ∙ ap (λ o. o >>= not_empty) e)

-- the reader's answer for a text: a fault, or octets
pub text_fault : (f : List ℕ → Option (List ℕ)) (xs : List ℕ) → f [] ≡ Some [] → f xs ≡ None → joined_text f xs ≡ bad_token
text_fault f [] z e = cc
text_fault f (x ∷ xs) z e = rw e

pub text_got : (f : List ℕ → Option (List ℕ)) (xs ys : List ℕ) → f [] ≡ Some [] → f xs ≡ Some ys → 0 < length ys → joined_text f xs ≡ got ys []
text_got f xs [] z e h = absurd (omega arith)
text_got f [] (y ∷ ys) z e h = cc
text_got f (x ∷ xs) (y ∷ ys) z e h = rw e

pub nothing_stored : (xs : List ℕ) (n m : ℕ) → m ≡ n + length xs → m ≤ n → xs ≡ []
nothing_stored [] n m c l = refl
nothing_stored (x ∷ xs) n m c l = absurd (omega arith)
