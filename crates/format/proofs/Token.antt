-- A printed token is scanned back, whatever follows after a space.
use Prim.Native.Nat.{ℕ, ◌<◌}
use mathlib.Core.Path.{◌≡◌, refl, ◌∙◌}
use mathlib.Core.Bool.{Bool, true, false, not, ◌&&◌, ◌||◌}
use mathlib.Core.List.{List, [], ◌∷◌, ◌++◌, map, append_assoc, append-nil}
use Rattle.std.specs.Prelude.{Option, None, Some}
use native.Mathlib.Omega.{arith}
use lib.Dec.{eqb}
use borrow.Author.Tests.{eqb-true}
use Rattle.format.specs.Lists.{cons_both, flat_map}
use Rattle.format.specs.Octets.{Below, blank}
use Rattle.format.specs.Token.{text_octet, quote_mark, guarded, Token, bare, quoted, Scan, between, in_bare, in_quotes, closed, ScanMove, skip, keep, end_bare, end_quoted, breaks, bare_octet, scan_step, into_first, after_scan, scanned, Item, octet_of, Escaping, outside, EscapeMove, moves, gives, bad_escape, escape_step, after_escape, unescaped_from}
use Rattle.format.specs.Text.{string_escape}
use Rattle.format.specs.Name.{name_escape, is_dot}
use Rattle.format.proofs.Lists.{and_left, and_right, or_left, not_true}
use Rattle.format.proofs.Finite.{all_below, at_each}

-- what follows a token: nothing, or a space and more
pub data Parted : List ℕ → Type 0 where
  at_end_of_text : Parted []
  spaced : (r : List ℕ) → Parted (32 ∷ r)

-- an octet that a bare token holds as it stands
abbrev pub plainly : ℕ → Bool
plainly x = not (blank x) && text_octet x && not (guarded x) && not (eqb x 92)

abbrev pub Plainly : List ℕ → Type 0
Plainly [] = Unit {0}
Plainly (x ∷ xs) = (plainly x ≡ true) × Plainly xs

module _ (x : ℕ) (h : plainly x ≡ true) where
  not_blank : blank x ≡ false
  not_blank = not_true (blank x) (and_left (not (blank x)) (text_octet x) (and_left (not (blank x) && text_octet x) (not (guarded x)) (and_left (not (blank x) && text_octet x && not (guarded x)) (not (eqb x 92)) h)))

  is_text : text_octet x ≡ true
  is_text = and_right (not (blank x)) (text_octet x) (and_left (not (blank x) && text_octet x) (not (guarded x)) (and_left (not (blank x) && text_octet x && not (guarded x)) (not (eqb x 92)) h))

  not_guarded : guarded x ≡ false
  not_guarded = not_true (guarded x) (and_right (not (blank x) && text_octet x) (not (guarded x)) (and_left (not (blank x) && text_octet x && not (guarded x)) (not (eqb x 92)) h))

  not_slash : eqb x 92 ≡ false
  not_slash = not_true (eqb x 92) (and_right (not (blank x) && text_octet x && not (guarded x)) (not (eqb x 92)) h)

  not_quote : quote_mark x ≡ false
  not_quote = or_left (quote_mark x) (eqb x 59) (or_left (quote_mark x || eqb x 59) (eqb x 40) (or_left (quote_mark x || eqb x 59 || eqb x 40) (eqb x 41) not_guarded))

  bare_octet_lem : bare_octet x ≡ keep (in_bare false)
  bare_octet_lem = rw (is_text, not_guarded, not_slash)

  pub in_bare_lem : scan_step (in_bare false) x ≡ keep (in_bare false)
  in_bare_lem = rw (not_blank, bare_octet_lem)

  pub from_between : scan_step between x ≡ keep (in_bare false)
  from_between = rw (not_blank, bare_octet_lem, not_quote)

rest_scanned : (t r : List ℕ) → Plainly t → Parted r → scanned (in_bare false) (t ++ r) ≡ bare t ∷ scanned between r
unfolding scanned
rest_scanned [] r h at_end_of_text = refl
rest_scanned [] r h (spaced s) = refl
rest_scanned (x ∷ t) r h p = rw (in_bare_lem x h.0, rest_scanned t r h.1 p)

-- a bare token of plain octets
pub bare_scanned : (x : ℕ) (t r : List ℕ) → Plainly (x ∷ t) → Parted r → scanned between (x ∷ t ++ r) ≡ bare (x ∷ t) ∷ scanned between r
unfolding scanned
bare_scanned x t r h p = rw (from_between x h.0, rest_scanned t r h.1 p)

-- where a scan comes to that keeps every octet
abbrev pub on_keep : ScanMove → (Scan → Option Scan) → Option Scan
on_keep (skip s) f = None
on_keep (keep s) f = f s
on_keep end_bare f = None
on_keep end_quoted f = None
on_keep breaks f = None

abbrev pub kept : Scan → List ℕ → Option Scan
kept s [] = Some s
kept s (x ∷ xs) = on_keep (scan_step s x) (λ t. kept t xs)

abbrev pub onto_all : List ℕ → List Token → List Token
onto_all [] ts = ts
onto_all (x ∷ xs) ts = into_first x (onto_all xs ts)

pub kept_append : (s t : Scan) (xs ys : List ℕ) → kept s xs ≡ Some t → kept s (xs ++ ys) ≡ kept t ys
kept_append s t [] ys e = let h : s ≡ t = cc in rw h
kept_append s t (x ∷ xs) ys e = by (scan_step s x) refl e (λ u. kept_append u t xs ys)
  where
    by : (m : ScanMove) → scan_step s x ≡ m → on_keep m (λ t. kept t xs) ≡ Some t → ((u : Scan) → kept u xs ≡ Some t → kept u (xs ++ ys) ≡ kept t ys)
        → on_keep (scan_step s x) (λ t. kept t (xs ++ ys)) ≡ kept t ys
    by (skip u) p f ih = cc
    by (keep u) p f ih = rw (p, ih u f)
    by end_bare p f ih = cc
    by end_quoted p f ih = cc
    by breaks p f ih = cc

kept_scanned : (s t : Scan) (xs r : List ℕ) → kept s xs ≡ Some t → scanned s (xs ++ r) ≡ onto_all xs (scanned t r)
unfolding scanned
kept_scanned s t [] r e = let h : s ≡ t = cc in rw h
kept_scanned s t (x ∷ xs) r e = by (scan_step s x) refl e (λ u. kept_scanned u t xs r)
  where
    by : (m : ScanMove) → scan_step s x ≡ m → on_keep m (λ t. kept t xs) ≡ Some t → ((u : Scan) → kept u xs ≡ Some t → scanned u (xs ++ r) ≡ onto_all xs (scanned t r))
        → after_scan x (scan_step s x) (λ t. scanned t (xs ++ r)) ≡ into_first x (onto_all xs (scanned t r))
    by (skip u) p f ih = cc
    by (keep u) p f ih = rw (p, ih u f)
    by end_bare p f ih = cc
    by end_quoted p f ih = cc
    by breaks p f ih = cc

pub onto_quote : (xs t : List ℕ) (ts : List Token) → onto_all xs (quoted t ∷ ts) ≡ quoted (xs ++ t) ∷ ts
onto_quote [] t ts = refl
onto_quote (x ∷ xs) t ts = rw (onto_quote xs t ts)

pub onto_bare : (xs t : List ℕ) (ts : List Token) → onto_all xs (bare t ∷ ts) ≡ bare (xs ++ t) ∷ ts
onto_bare [] t ts = refl
onto_bare (x ∷ xs) t ts = rw (onto_bare xs t ts)

closed_scanned : (r : List ℕ) → Parted r → scanned closed r ≡ quoted [] ∷ scanned between r
unfolding scanned
closed_scanned r at_end_of_text = refl
closed_scanned r (spaced s) = refl

open_scanned : (r : List ℕ) → Parted r → scanned (in_bare false) r ≡ bare [] ∷ scanned between r
unfolding scanned
open_scanned r at_end_of_text = refl
open_scanned r (spaced s) = refl

opening : (xs : List ℕ) → scanned between (34 ∷ xs) ≡ scanned (in_quotes 34 false) xs
unfolding scanned
opening xs = refl

closing : (xs : List ℕ) → scanned (in_quotes 34 false) (34 ∷ xs) ≡ scanned closed xs
unfolding scanned
closing xs = refl

-- a quoted token
pub quote_scanned : (t r : List ℕ) → kept (in_quotes 34 false) t ≡ Some (in_quotes 34 false) → Parted r → scanned between (34 ∷ (t ++ 34 ∷ []) ++ r) ≡ quoted t ∷ scanned between r
quote_scanned t r e p =
    rw (opening ((t ++ 34 ∷ []) ++ r), append_assoc t (34 ∷ []) r, kept_scanned (in_quotes 34 false) (in_quotes 34 false) t (34 ∷ r) e, closing r, closed_scanned r p, onto_quote t [] (scanned between r), append-nil t)

-- a bare token
pub word_scanned : (t r : List ℕ) → kept between t ≡ Some (in_bare false) → Parted r → scanned between (t ++ r) ≡ bare t ∷ scanned between r
word_scanned t r e p = rw (kept_scanned between (in_bare false) t r e, open_scanned r p, onto_bare t [] (scanned between r), append-nil t)

-- the escapes of each octet, by a test of all 256
abbrev same_scan : Bool → Option Scan → Bool
same_scan q None = false
same_scan q (Some between) = false
same_scan q (Some (in_bare e)) = not q && not e
same_scan q (Some (in_quotes c e)) = q && not e && eqb c 34
same_scan q (Some closed) = false

is_quote : (v : Option Scan) → same_scan true v ≡ true → v ≡ Some (in_quotes 34 false)
is_quote None h = cc
is_quote (Some between) h = cc
is_quote (Some (in_bare e)) h = cc
is_quote (Some (in_quotes c true)) h = cc
is_quote (Some (in_quotes c false)) h = let e : c ≡ 34 = eqb-true c 34 h in rw e
is_quote (Some closed) h = cc

is_bare : (v : Option Scan) → same_scan false v ≡ true → v ≡ Some (in_bare false)
is_bare None h = cc
is_bare (Some between) h = cc
is_bare (Some (in_bare true)) h = cc
is_bare (Some (in_bare false)) h = refl
is_bare (Some (in_quotes c e)) h = cc
is_bare (Some closed) h = cc

string_kept : (x : ℕ) → x < 256 → kept (in_quotes 34 false) (string_escape x) ≡ Some (in_quotes 34 false)
string_kept x h = is_quote _ (at_each (λ x. same_scan true (kept (in_quotes 34 false) (string_escape x))) 256 refl x h)

pub name_kept : (x : ℕ) → x < 256 → kept (in_bare false) (name_escape x) ≡ Some (in_bare false)
name_kept x h = is_bare _ (at_each (λ x. same_scan false (kept (in_bare false) (name_escape x))) 256 refl x h)

pub name_begins : (x : ℕ) → x < 256 → kept between (name_escape x) ≡ Some (in_bare false)
name_begins x h = is_bare _ (at_each (λ x. same_scan false (kept between (name_escape x))) 256 refl x h)

pub strings_kept : (xs : List ℕ) → Below 256 xs → kept (in_quotes 34 false) (flat_map string_escape xs) ≡ Some (in_quotes 34 false)
strings_kept [] h = refl
strings_kept (x ∷ xs) h = kept_append (in_quotes 34 false) (in_quotes 34 false) (string_escape x) (flat_map string_escape xs) (string_kept x h.0) ∙ strings_kept xs h.1

-- what the last octet of an escape, and one before it, do
abbrev pub at_last : EscapeMove → Option Item
at_last (moves e) = None
at_last (gives i) = Some i
at_last bad_escape = None

abbrev pub before : EscapeMove → (Escaping → Option Item) → Option Item
before (moves e) f = f e
before (gives i) f = None
before bad_escape f = None

-- the one item of an octet's text
abbrev pub given : Escaping → List ℕ → Option Item
given e [] = None
given e (x ∷ []) = at_last (escape_step e x)
given e (x ∷ y ∷ xs) = before (escape_step e x) (λ f. given f (y ∷ xs))

pub given_unescaped : (e : Escaping) (t r : List ℕ) (i : Item) → given e t ≡ Some i → unescaped_from e (t ++ r) ≡ cons_both (Some i) (unescaped_from outside r)
unfolding unescaped_from
given_unescaped e [] r i h = cc
given_unescaped e (x ∷ []) r i h = by (escape_step e x) refl h
  where
    by : (m : EscapeMove) → escape_step e x ≡ m → at_last m ≡ Some i → after_escape (escape_step e x) (λ f. unescaped_from f r) ≡ cons_both (Some i) (unescaped_from outside r)
    by (moves f) p h = cc
    by (gives j) p h = let q : j ≡ i = cc in rw (p, q)
    by bad_escape p h = cc
given_unescaped e (x ∷ y ∷ xs) r i h = by (escape_step e x) refl h (λ f. given_unescaped f (y ∷ xs) r i)
  where
    by : (m : EscapeMove) → escape_step e x ≡ m → before m (λ f. given f (y ∷ xs)) ≡ Some i → ((f : Escaping) → given f (y ∷ xs) ≡ Some i → unescaped_from f (y ∷ xs ++ r) ≡ cons_both (Some i) (unescaped_from outside r))
        → after_escape (escape_step e x) (λ f. unescaped_from f (y ∷ xs ++ r)) ≡ cons_both (Some i) (unescaped_from outside r)
    by (moves f) p h ih = rw (p, ih f h)
    by (gives j) p h ih = cc
    by bad_escape p h ih = cc

-- an item that is x and no dot
abbrev item_ok : ℕ → Option Item → Bool
item_ok x None = false
item_ok x (Some i) = eqb (octet_of i) x && not (is_dot i)

pub data Itemed (t : List ℕ) (x : ℕ) : Type 0 where
  item : (i : Item) → given outside t ≡ Some i → octet_of i ≡ x → is_dot i ≡ false → Itemed t x

itemed : (t : List ℕ) (x : ℕ) → item_ok x (given outside t) ≡ true → Itemed t x
itemed t x h = by (given outside t) refl h
  where
    by : (v : Option Item) → given outside t ≡ v → item_ok x v ≡ true → Itemed t x
    by None e f = let z : ◌≡◌ {A = ℕ} 0 1 = cc in absurd (omega arith)
    by (Some i) e f = item i e (eqb-true (octet_of i) x (and_left (eqb (octet_of i) x) (not (is_dot i)) f)) (not_true (is_dot i) (and_right (eqb (octet_of i) x) (not (is_dot i)) f))

pub name_item : (x : ℕ) → x < 256 → Itemed (name_escape x) x
name_item x h = itemed (name_escape x) x (at_each (λ x. item_ok x (given outside (name_escape x))) 256 refl x h)

abbrev string_ok : ℕ → Option Item → Bool
string_ok x None = false
string_ok x (Some i) = eqb (octet_of i) x

string_item : (x : ℕ) → x < 256 → (i : Item) × (given outside (string_escape x) ≡ Some i) × (octet_of i ≡ x)
string_item x h = by (given outside (string_escape x)) refl (at_each (λ x. string_ok x (given outside (string_escape x))) 256 refl x h)
  where
    by : (v : Option Item) → given outside (string_escape x) ≡ v → string_ok x v ≡ true → (i : Item) × (given outside (string_escape x) ≡ Some i) × (octet_of i ≡ x)
    by None e f = let z : ◌≡◌ {A = ℕ} 0 1 = cc in absurd (omega arith)
    by (Some i) e f = (i, e, eqb-true (octet_of i) x f)

pub none_left : unescaped_from outside [] ≡ Some []
unfolding unescaped_from
none_left = refl

-- a string's text reads back
pub string_read : (xs : List ℕ) → Below 256 xs → (is : List Item) × (unescaped_from outside (flat_map string_escape xs) ≡ Some is) × (map octet_of is ≡ xs)
string_read [] h = ([], none_left, refl)
string_read (x ∷ xs) h =
    let (i, e, f) = string_item x h.0 in
    let (is, g, k) = string_read xs h.1 in
    (i ∷ is, rw (given_unescaped outside (string_escape x) (flat_map string_escape xs) i e, g), rw (f, k))

pub none_scanned : scanned between [] ≡ []
unfolding scanned
none_scanned = refl

pub space_scanned : (r : List ℕ) → scanned between (32 ∷ r) ≡ scanned between r
unfolding scanned
space_scanned r = refl

-- characters of digits are plain, by one computed test of all of them
pub chars_plain : (char : ℕ → ℕ) (b : ℕ) → all_below (λ d. plainly (char d)) b ≡ true → (ds : List ℕ) → Below b ds → Plainly (map char ds)
chars_plain char b t [] h = tt
chars_plain char b t (d ∷ ds) h = (at_each (λ d. plainly (char d)) b t d h.0, chars_plain char b t ds h.1)

pub plain_append : (s t : List ℕ) → Plainly s → Plainly t → Plainly (s ++ t)
plain_append [] t h k = k
plain_append (x ∷ s) t h k = (h.0, plain_append s t h.1 k)
