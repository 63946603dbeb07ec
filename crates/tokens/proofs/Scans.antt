-- A scan inside a token: over the octets that the code passes, and where it stops.
use Prim.Native.Nat.{ℕ, zero, suc, ◌+◌, ◌-◌, ◌≤◌, ◌<◌}
use mathlib.Core.Path.{◌≡◌, refl, sym, ap, subst, ◌∙◌}
use mathlib.Core.Bool.{Bool, true, false, not, cond, ◌&&◌}
use mathlib.Core.List.{List, [], ◌∷◌, ◌++◌, append-nil}
use native.Mathlib.Nat.{le_refl}
use native.Mathlib.Omega.{arith}
use lib.Dec.{eqb, ltb}
use lib.ListN.{length, take, drop, get_or, length-drop}
use lib.Seq.{slice, slice_empty, drop-drop}
use borrow.Author.Tests.{eqb-true, ne_eqb, ltb-true, ltb-false}
use Rattle.format.specs.Lists.{Spanned, spanning, span}
use Rattle.format.specs.Octets.{blank}
use Rattle.format.specs.Token.{text_octet, quote_mark, guarded, Token, bare, quoted, broken, Scan, between, in_bare, in_quotes, closed, skip, keep, breaks, scan_step, into_first, after_scan, scanned, tokens}
use Rattle.format.proofs.Lists.{and_left, and_right, not_true, drop_next as next, drop_none as none, to_end}
use Rattle.format.proofs.Token.{in_bare_lem, onto_all, onto_bare, onto_quote}
use Rattle.octets.proofs.Slices.{span_front, span_rest, span_length, lent}
use Rattle.octets.proofs.Blocks.{slice_append}
use Rattle.std.specs.Prelude.{Some, ◌⊎◌}
use mathlib.Core.Logic.{inl, inr}
use Rattle.tokens.specs.declared.Next.{Next}
use Rattle.tokens.specs.declared.Next.TheVariants.{Bare, Quoted, Broken}
use Rattle.tokens.specs.Tokens.{tokens_by, inside, standing, front_end, escapes, parted_off, closes, ended_at, From, Within}

-- the next two octets
pub next_two : (t : List ℕ) (i : ℕ) → i + 2 ≤ length t → drop i t ≡ get_or t i 0 ∷ get_or t (i + 1) 0 ∷ drop (i + 2) t
next_two t i h = let e : i + 1 + 1 ≡ i + 2 = omega arith in next t i (omega arith) ∙ ap (λ xs. get_or t i 0 ∷ xs) (next t (i + 1) (omega arith) ∙ rw e)

pub short : (xs : List ℕ) → length xs < 2 → false ≡ escapes xs
short [] h = refl
short (x ∷ []) h = refl
short (x ∷ y ∷ xs) h = absurd (omega arith)

pub ended_quoted : (t : List ℕ) (a q j : ℕ) → (q ≡ 0 → ⊥) → ended_at t a q j ≡ cond (closes q (drop j t)) (Quoted a j) Broken
ended_quoted t a zero j h = absurd (h refl)
ended_quoted t a (suc q) j h = refl

onto_append : (xs ys : List ℕ) (ts : List Token) → onto_all (xs ++ ys) ts ≡ onto_all xs (onto_all ys ts)
onto_append [] ys ts = refl
onto_append (x ∷ xs) ys ts = rw (onto_append xs ys ts)

onto_broken : (xs : List ℕ) → onto_all xs (broken ∷ []) ≡ broken ∷ []
onto_broken [] = refl
onto_broken (x ∷ xs) = rw (onto_broken xs)

-- an octet that stands for itself is kept
stand_step : (q x : ℕ) → standing q x ≡ true → scan_step (inside q) x ≡ keep (inside q)
stand_step zero x h = in_bare_lem x h
stand_step (suc q) x h =
    let n : eqb x (suc q) ≡ false = not_true (eqb x (suc q)) (and_left (not (eqb x (suc q))) (not (eqb x 92)) (and_left (not (eqb x (suc q)) && not (eqb x 92)) (text_octet x) h)) in
    let m : eqb x 92 ≡ false = not_true (eqb x 92) (and_right (not (eqb x (suc q))) (not (eqb x 92)) (and_left (not (eqb x (suc q)) && not (eqb x 92)) (text_octet x) h)) in
    let o : text_octet x ≡ true = and_right (not (eqb x (suc q)) && not (eqb x 92)) (text_octet x) h in
    rw (n, o, m)

run : (q : ℕ) (xs : List ℕ) → scanned (inside q) xs ≡ onto_all (span (standing q) xs).front (scanned (inside q) (span (standing q) xs).rest)
unfolding scanned
run q [] = refl
run q (x ∷ xs) = by (standing q x) refl (run q xs)
  where
    s : Spanned
    s = span (standing q) xs

    by : (b : Bool) → standing q x ≡ b → scanned (inside q) xs ≡ onto_all s.front (scanned (inside q) s.rest)
        → after_scan x (scan_step (inside q) x) (λ u. scanned u xs) ≡ onto_all (spanning b x xs s).front (scanned (inside q) (spanning b x xs s).rest)
    by true e ih = rw (stand_step q x e) (ap (into_first x) ih)
    by false e ih = refl

-- the octet after the longest front that passes does not pass
abbrev pub Stopped : (ℕ → Bool) → List ℕ → Type 0
Stopped f [] = Unit {0}
Stopped f (x ∷ xs) = f x ≡ false

span_stopped : (f : ℕ → Bool) (xs : List ℕ) → Stopped f (span f xs).rest
span_stopped f [] = tt
span_stopped f (x ∷ xs) = by (f x) refl (span_stopped f xs)
  where
    by : (b : Bool) → f x ≡ b → Stopped f (span f xs).rest → Stopped f (spanning b x xs (span f xs)).rest
    by true e ih = ih
    by false e ih = e

-- the scan after a backslash
abbrev slashed : ℕ → Scan
slashed zero = in_bare true
slashed (suc q) = in_quotes (suc q) true

slash_step : (q : ℕ) → q < 92 → scan_step (inside q) 92 ≡ keep (slashed q)
slash_step zero h = refl
slash_step (suc q) h = rw (ne_eqb 92 (suc q) (λ e. omega arith))

slashed_step : (q x : ℕ) → scan_step (slashed q) x ≡ cond (text_octet x) (keep (inside q)) breaks
slashed_step zero x = refl
slashed_step (suc q) x = refl

escape_scanned : (q x : ℕ) (xs : List ℕ) → q < 92 → text_octet x ≡ true → scanned (inside q) (92 ∷ x ∷ xs) ≡ onto_all (92 ∷ x ∷ []) (scanned (inside q) xs)
unfolding scanned
escape_scanned q x xs h o = rw (slash_step q h, slashed_step q x, o)

-- a backslash that takes no octet
slash_broken : (q : ℕ) (xs : List ℕ) → q < 92 → escapes (92 ∷ xs) ≡ false → scanned (inside q) (92 ∷ xs) ≡ broken ∷ []
unfolding scanned
slash_broken zero [] h e = refl
slash_broken (suc q) [] h e = rw (slash_step (suc q) h)
slash_broken q (y ∷ ys) h e = rw (slash_step q h, slashed_step q y, e)

-- the scan from a on keeps the octets from a to j and goes on from j
pub record Kept (t : List ℕ) (q a j : ℕ) : Type 0 where
  pub after : a ≤ j
  pub within : j ≤ length t
  pub same : scanned (inside q) (drop a t) ≡ onto_all (slice a j t) (scanned (inside q) (drop j t))

pub kept_none : (t : List ℕ) (q a : ℕ) → a ≤ length t → Kept t q a a
kept_none t q a h = record { after = le_refl a; within = h; same = rw (slice_empty a t) }

kept_more : (t : List ℕ) (q a i j : ℕ) → Kept t q a i → i ≤ j → j ≤ length t → scanned (inside q) (drop i t) ≡ onto_all (slice i j t) (scanned (inside q) (drop j t)) → Kept t q a j
kept_more t q a i j k h l e = record {
  after = omega (arith, k.after);
  within = l;
  same = k.same ∙ ap (onto_all (slice a i t)) e ∙ sym (onto_append (slice a i t) (slice i j t) (scanned (inside q) (drop j t))) ∙ ap (λ xs. onto_all xs (scanned (inside q) (drop j t))) (sym (slice_append t a i j k.after h l));
}

-- the octets from i to j that pass, and what follows them
module _ (t : List ℕ) (f : ℕ → Bool) (i j : ℕ) (h : i ≤ length t) (p : j ≡ i + length (span f (slice i (length t) t)).front) where
  reaches : j ≡ i + length (span f (drop i t)).front
  reaches = rw (to_end t i) at p

  front_within : (i ≤ j) × (j ≤ length t)
  front_within = (omega (arith, reaches), omega (arith, reaches, span_length f (drop i t), length-drop i t))

  front_is : (span f (drop i t)).front ≡ slice i j t
  front_is = let e : j - i ≡ length (span f (drop i t)).front = omega (arith, reaches) in sym (span_front f (drop i t)) ∙ ap (λ n. take n (drop i t)) (sym e) ∙ lent t i j front_within.0

  rest_is : (span f (drop i t)).rest ≡ drop j t
  rest_is = sym (span_rest f (drop i t)) ∙ drop-drop (length (span f (drop i t)).front) i t ∙ ap (λ n. drop n t) (sym reaches)

  pub front_stops : Stopped f (drop j t)
  front_stops = rw rest_is at (span_stopped f (drop i t))

pub kept_run : (t : List ℕ) (q a i j : ℕ) → j ≡ front_end q t i (length t) → Kept t q a i → Kept t q a j
kept_run t q a i j p k =
    let w = front_within t (standing q) i j k.within p in
    kept_more t q a i j k w.0 w.1 (run q (drop i t) ∙ rw (front_is t (standing q) i j k.within p, rest_is t (standing q) i j k.within p))

two_left : (xs : List ℕ) → escapes xs ≡ true → 2 ≤ length xs
two_left [] h = let z : ◌≡◌ {A = ℕ} 0 1 = cc in absurd (omega arith)
two_left (x ∷ []) h = let z : ◌≡◌ {A = ℕ} 0 1 = cc in absurd (omega arith)
two_left (x ∷ y ∷ xs) h = omega arith

pub escape_within : (t : List ℕ) (j : ℕ) → escapes (drop j t) ≡ true → j + 2 ≤ length t
escape_within t j e = omega (arith, two_left (drop j t) e, length-drop j t)

pub kept_escape : (t : List ℕ) (q a j : ℕ) → Kept t q a j → q < 92 → escapes (drop j t) ≡ true → Kept t q a (j + 2)
kept_escape t q a j k h e =
    let l : j + 2 ≤ length t = escape_within t j e in
    let f : eqb (get_or t j 0) 92 && text_octet (get_or t (j + 1) 0) ≡ true = rw (next_two t j l) at e in
    let x : get_or t j 0 ≡ 92 = eqb-true (get_or t j 0) 92 (and_left (eqb (get_or t j 0) 92) (text_octet (get_or t (j + 1) 0)) f) in
    let two : slice j (j + 2) t ≡ get_or t j 0 ∷ get_or t (j + 1) 0 ∷ [] = sym (lent t j (j + 2) (omega arith)) ∙ (let n : j + 2 - j ≡ 2 = omega arith in rw (n, next_two t j l)) in
    kept_more t q a j (j + 2) k (omega arith) l (rw (two, next_two t j l, x) (escape_scanned q (get_or t (j + 1) 0) (drop (j + 2) t) h (and_right (eqb (get_or t j 0) 92) (text_octet (get_or t (j + 1) 0)) f)))

-- the tokens from the octet at which the code stops
abbrev left_at : ℕ → List ℕ → List Token
left_at zero xs = cond (parted_off xs) (bare [] ∷ tokens xs) (broken ∷ [])
left_at (suc q) xs = cond (closes (suc q) xs) (quoted [] ∷ tokens (drop 1 xs)) (broken ∷ [])

left_slash : (q : ℕ) (xs : List ℕ) → q < 92 → left_at q (92 ∷ xs) ≡ broken ∷ []
left_slash zero xs h = refl
left_slash (suc q) xs h = rw (ne_eqb 92 (suc q) (λ e. omega arith))

left_bare : (x : ℕ) (xs : List ℕ) → eqb x 92 ≡ false → standing 0 x ≡ false → scanned (in_bare false) (x ∷ xs) ≡ left_at 0 (x ∷ xs)
unfolding scanned
left_bare x xs n s = by (blank x) refl
  where
    on : (b : Bool) → text_octet x && not (guarded x) ≡ b → b && true ≡ false → after_scan x (cond (text_octet x && not (guarded x)) (keep (in_bare (eqb x 92))) breaks) (λ u. scanned u xs) ≡ broken ∷ []
    on true e f = let z : ◌≡◌ {A = ℕ} 0 1 = cc in absurd (omega arith)
    on false e f = rw e

    by : (b : Bool) → blank x ≡ b → scanned (in_bare false) (x ∷ xs) ≡ left_at 0 (x ∷ xs)
    by true e = rw e
    by false e = rw e (on (text_octet x && not (guarded x)) refl (rw (e, n) at s))

after_quote : (xs : List ℕ) → scanned closed xs ≡ cond (parted_off xs) (quoted [] ∷ tokens xs) (broken ∷ [])
unfolding scanned
after_quote [] = refl
after_quote (x ∷ xs) = by (blank x) refl
  where
    by : (b : Bool) → blank x ≡ b → scanned closed (x ∷ xs) ≡ cond (blank x) (quoted [] ∷ tokens (x ∷ xs)) (broken ∷ [])
    by true e = rw e
    by false e = rw e

left_quoted : (q x : ℕ) (xs : List ℕ) → eqb x 92 ≡ false → standing (suc q) x ≡ false → scanned (in_quotes (suc q) false) (x ∷ xs) ≡ left_at (suc q) (x ∷ xs)
unfolding scanned
left_quoted q x xs n s = by (eqb x (suc q)) refl
  where
    by : (b : Bool) → eqb x (suc q) ≡ b → scanned (in_quotes (suc q) false) (x ∷ xs) ≡ left_at (suc q) (x ∷ xs)
    by true e = rw e (after_quote xs)
    by false e = let o : text_octet x ≡ false = rw (e, n) at s in rw (e, o)

nothing_left : (q : ℕ) → scanned (inside q) [] ≡ left_at q []
unfolding scanned
nothing_left zero = refl
nothing_left (suc q) = refl

left : (q : ℕ) (xs : List ℕ) → q < 92 → Stopped (standing q) xs → escapes xs ≡ false → scanned (inside q) xs ≡ left_at q xs
left q [] h s e = nothing_left q
left q (x ∷ xs) h s e = by (eqb x 92) refl
  where
    other : (q : ℕ) → Stopped (standing q) (x ∷ xs) → eqb x 92 ≡ false → scanned (inside q) (x ∷ xs) ≡ left_at q (x ∷ xs)
    other zero s n = left_bare x xs n s
    other (suc q) s n = left_quoted q x xs n s

    by : (b : Bool) → eqb x 92 ≡ b → scanned (inside q) (x ∷ xs) ≡ left_at q (x ∷ xs)
    by true n = let y : x ≡ 92 = eqb-true x 92 n in rw y (slash_broken q xs h (subst (λ z. escapes (z ∷ xs) ≡ false) y e) ∙ sym (left_slash q xs h))
    by false n = other q s n

-- the octets that were kept, before those tokens, are the token that ends there and those after it
onto_left : (t : List ℕ) (q a j : ℕ) → tokens_by t (Some (ended_at t a q j)) ≡ onto_all (slice a j t) (left_at q (drop j t))
onto_left t zero a j = by (parted_off (drop j t))
  where
    by : (b : Bool) → tokens_by t (Some (cond b (Bare a j) Broken)) ≡ onto_all (slice a j t) (cond b (bare [] ∷ tokens (drop j t)) (broken ∷ []))
    by true = rw (onto_bare (slice a j t) [] (tokens (drop j t)), append-nil (slice a j t))
    by false = rw (onto_broken (slice a j t))
onto_left t (suc q) a j = by (closes (suc q) (drop j t))
  where
    by : (b : Bool) → tokens_by t (Some (cond b (Quoted a j) Broken)) ≡ onto_all (slice a j t) (cond b (quoted [] ∷ tokens (drop 1 (drop j t))) (broken ∷ []))
    by true = rw (onto_quote (slice a j t) [] (tokens (drop 1 (drop j t))), append-nil (slice a j t), drop-drop 1 j t)
    by false = rw (onto_broken (slice a j t))

pub token_ended : (t : List ℕ) (q a j : ℕ) → q < 92 → Kept t q a j → Stopped (standing q) (drop j t) → escapes (drop j t) ≡ false → tokens_by t (Some (ended_at t a q j)) ≡ scanned (inside q) (drop a t)
token_ended t q a j h k s e = onto_left t q a j ∙ ap (onto_all (slice a j t)) (sym (left q (drop j t) h s e)) ∙ sym k.same

closes_within : (q : ℕ) (xs : List ℕ) → closes q xs ≡ true → 1 ≤ length xs
closes_within q [] h = let z : ◌≡◌ {A = ℕ} 0 1 = cc in absurd (omega arith)
closes_within q (x ∷ xs) h = omega arith

pub token_from : (t : List ℕ) (q a j : ℕ) → Kept t q a j → From t q a (ended_at t a q j)
token_from t zero a j k = by (parted_off (drop j t)) refl
  where
    by : (b : Bool) → parted_off (drop j t) ≡ b → From t 0 a (cond b (Bare a j) Broken)
    by true e = (refl, refl, k.after, k.within, e)
    by false e = tt
token_from t (suc q) a j k = by (closes (suc q) (drop j t)) refl
  where
    by : (b : Bool) → closes (suc q) (drop j t) ≡ b → From t (suc q) a (cond b (Quoted a j) Broken)
    by true e = (omega arith, refl, k.after, omega (arith, closes_within (suc q) (drop j t) e, length-drop j t))
    by false e = tt

-- the first token: blanks before it are left out
blanks_scanned : (xs : List ℕ) → scanned between xs ≡ scanned between (span blank xs).rest
unfolding scanned
blanks_scanned [] = refl
blanks_scanned (x ∷ xs) = by (blank x) refl (blanks_scanned xs)
  where
    by : (b : Bool) → blank x ≡ b → scanned between xs ≡ scanned between (span blank xs).rest
        → after_scan x (scan_step between x) (λ u. scanned u xs) ≡ scanned between (spanning b x xs (span blank xs)).rest
    by true e ih = rw e ih
    by false e ih = refl

quote_scanned : (q : ℕ) (xs : List ℕ) → scan_step between q ≡ skip (inside q) → scanned (inside q) xs ≡ scanned between (q ∷ xs)
unfolding scanned
quote_scanned q xs e = rw e

bare_scanned : (x : ℕ) (xs : List ℕ) → blank x ≡ false → quote_mark x ≡ false → scanned (inside 0) (x ∷ xs) ≡ scanned between (x ∷ xs)
unfolding scanned
bare_scanned x xs e f = rw (e, f)

none_scanned : [] ≡ scanned between []
unfolding scanned
none_scanned = refl

module _ (t : List ℕ) (i a : ℕ) (h : i ≤ length t) (p : a ≡ i + length (span blank (slice i (length t) t)).front) where
  blanks_over : tokens (drop a t) ≡ tokens (drop i t)
  blanks_over = ap tokens (sym (rest_is t blank i a h p)) ∙ sym (blanks_scanned (drop i t))

  not_blank : a < length t → blank (get_or t a 0) ≡ false
  not_blank l = rw (next t a l) at (front_stops t blank i a h p)

  pub no_token_lem : length t ≤ a → [] ≡ tokens (drop i t)
  no_token_lem l = none_scanned ∙ ap tokens (sym (none t a l)) ∙ blanks_over

  pub quoted_first : (q : ℕ) → a < length t → get_or t a 0 ≡ q → scan_step between q ≡ skip (inside q) → scanned (inside q) (drop (a + 1) t) ≡ tokens (drop i t)
  quoted_first q l e s = quote_scanned q (drop (a + 1) t) s ∙ rw (← e) (ap tokens (sym (next t a l))) ∙ blanks_over

  pub bare_first : a < length t → quote_mark (get_or t a 0) ≡ false → scanned (inside 0) (drop a t) ≡ tokens (drop i t)
  bare_first l e = ap (scanned (inside 0)) (next t a l) ∙ bare_scanned (get_or t a 0) (drop (a + 1) t) (not_blank l) e ∙ ap tokens (sym (next t a l)) ∙ blanks_over

  pub quoted_within : (q : ℕ) (r : Next) → 1 ≤ q → From t q (a + 1) r → Within t i (Some r)
  quoted_within q (Bare b e) k f = absurd (omega arith)
  quoted_within q (Quoted b e) k f = (omega (arith, front_within t blank i a h p), omega arith, f.3)
  quoted_within q Broken k f = tt

  pub bare_within : (r : Next) → a < length t → From t 0 a r → Within t i (Some r)
  bare_within (Bare b e) l (z, y, x, w, v) = (omega (arith, front_within t blank i a h p), by (ltb a e) refl, w)
    where
      by : (d : Bool) → ltb a e ≡ d → b < e
      by true k = omega (arith, ltb-true a e k)
      by false k = let s : e ≡ a = omega (arith, ltb-false a e k) in let g : blank (get_or t a 0) ≡ true = rw (s, next t a l) at v in let m : ◌≡◌ {A = Bool} true false = sym g ∙ not_blank l in let n : ◌≡◌ {A = ℕ} 0 1 = cc in absurd (omega arith)
  bare_within (Quoted b e) l f = absurd (omega arith)
  bare_within Broken l f = tt

-- either quote begins a quoted token
pub a_quote : (q : ℕ) → (q ≡ 34) ⊎ ((q ≡ 34 → ⊥) × (q ≡ 39)) → scan_step between q ≡ skip (inside q)
a_quote q (inl e) = rw e
a_quote q (inr e) = rw (e.1)

-- a backslash never stands for itself
pub slash_stops : (q x : ℕ) → x ≡ 92 → standing q x ≡ false
slash_stops zero x e = rw e
slash_stops (suc q) x e = rw e (by (not (eqb 92 (suc q))))
  where
    by : (b : Bool) → b && false && true ≡ false
    by true = refl
    by false = refl
