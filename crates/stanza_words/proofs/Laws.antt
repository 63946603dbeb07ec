-- Laws of names, of equal texts, and of the pieces between commas.
use Prim.Native.Nat.{ℕ, suc, ◌+◌, ◌-◌, ◌≤◌, ◌<◌}
use Prim.Native.Char.{code}
use mathlib.Core.Path.{◌≡◌, refl, sym, ap, ◌∙◌}
use mathlib.Core.Bool.{Bool, true, false, not, cond, ◌&&◌, ◌||◌, and-false}
use mathlib.Core.List.{List, [], ◌∷◌, map}
use Rattle.std.specs.Prelude.{None, Some}
use native.Mathlib.Omega.{arith}
use native.Mathlib.Numerals.{add-one}
use lib.ListN.{length, get_or, take, drop, drop_of_length-le}
use lib.Seq.{slice, length-slice, drop-cons}
use lib.Dec.{eqb, leb}
use borrow.Author.Tests.{eq-eqb, ne_eqb}
use Rattle.format.specs.Lists.{◌>>=◌, provided, any_of, all_of, Spanned, spanning, span}
use Rattle.format.specs.Octets.{name_octet, lowered, same_octets}
use Rattle.format.specs.Number.{decimal_of}
use Rattle.format.specs.Field.{Part}
use Rattle.format.specs.Lines.{placed}
use Rattle.format.specs.Grammar.{word, symbol, starts_with_letter, is_name, if_qualifier, qualifier}
use Rattle.format.specs.Types.{known_word, has_word}
use Rattle.octets.specs.Octets.{part_in, front_end}
use Rattle.octets.proofs.Slices.{next, none as nothing, front_rest, front_within, span_front, part, lent}
use Rattle.std.specs.List.{list_all, zip}
use Rattle.octets.proofs.Lines.{cut_rest, cut_first}
use Rattle.stanza_words.specs.Qualifiers.{pieces_in, words_for, holds_of, same_by, name_in, twice_in}
use Rattle.stanza_words.specs.declared.Test.{Test}
use Rattle.stanza_words.specs.declared.Test.TheVariants.{Malformed, Unknown, NotSymbol, NotWord, IsWord}
use Rattle.stanza_words.specs.declared.Words.{Words}
use Rattle.stanza_words.specs.declared.Words.TheVariants.{OnR, OnN, OnS, OnX}

-- the longest front that passes is the part up to its end
module _ (f : ℕ → Bool) where
  pub front : (s : List ℕ) (i e : ℕ) → i ≤ e → e ≤ length s → (span f (slice i e s)).front ≡ slice i (front_end f s i e) s
  front s i e h l = sym (span_front f (slice i e s)) ∙ part s i (length (span f (slice i e s)).front) e (front_within f s i e h l)

  pub all_front : (xs : List ℕ) → all_of f (span f xs).front ≡ true
  all_front [] = refl
  all_front (x ∷ xs) = by (f x) refl (all_front xs)
    where
      by : (b : Bool) → f x ≡ b → all_of f (span f xs).front ≡ true → all_of f (spanning b x xs (span f xs)).front ≡ true
      by true h ih = rw (h, ih)
      by false h ih = refl

  pub all_passes : (s : List ℕ) (i e : ℕ) → i ≤ e → e ≤ length s → all_of f (slice i (front_end f s i e) s) ≡ true
  all_passes s i e h l = rw (← front s i e h l) (all_front (slice i e s))

-- equal texts, octet by octet
pub same_next : (g : Bool) (x y : ℕ) (xs ys : List ℕ) → same_by g (x ∷ xs) (y ∷ ys) ≡ eqb (cond g (lowered x) x) (cond g (lowered y) y) && same_by g xs ys
same_next true x y xs ys = refl
same_next false x y xs ys = refl

same_none : (g : Bool) → same_by g [] [] ≡ true
same_none true = refl
same_none false = refl

pub same_length : (g : Bool) (xs ys : List ℕ) → (length xs ≡ length ys → ⊥) → same_by g xs ys ≡ false
same_length g [] [] h = absurd (h refl)
same_length true [] (y ∷ ys) h = refl
same_length false [] (y ∷ ys) h = refl
same_length true (x ∷ xs) [] h = refl
same_length false (x ∷ xs) [] h = refl
same_length g (x ∷ xs) (y ∷ ys) h =
    same_next g x y xs ys ∙ by (eqb (cond g (lowered x) x) (cond g (lowered y) y)) (same_length g xs ys (λ m. h (ap suc m)))
  where
    by : (b : Bool) → same_by g xs ys ≡ false → b && same_by g xs ys ≡ false
    by true e = e
    by false e = refl

-- the octets that a chain over both texts sees
abbrev pub folded : Bool → ℕ → ℕ
folded g x = cond g (lowered x) x

pub zipped : (g : Bool) (xs ys : List ℕ) → length xs ≡ length ys → list_all (λ (p : ℕ × ℕ). eqb (folded g p.0) (folded g p.1)) (zip xs ys) ≡ same_by g xs ys
zipped g [] [] h = sym (same_none g)
zipped g [] (y ∷ ys) h = absurd (omega arith)
zipped g (x ∷ xs) [] h = absurd (omega arith)
zipped g (x ∷ xs) (y ∷ ys) h = rw (same_next g x y xs ys, zipped g xs ys (omega arith))

-- the rests of two texts after n octets: one octet more; r says whether those are the same
pub same_more : (g : Bool) (s t : List ℕ) (n : ℕ) → n < length s → n < length t → (r ok : Bool) → r ≡ eqb (folded g (get_or s n 0)) (folded g (get_or t n 0))
    → (ok && r) && same_by g (drop (n + 1) s) (drop (n + 1) t) ≡ ok && same_by g (drop n s) (drop n t)
same_more g s t n h k r ok e =
    rw (add-one, drop-cons s n 0 h, drop-cons t n 0 k, same_next g (get_or s n 0) (get_or t n 0) (drop (suc n) s) (drop (suc n) t), ← e) (by ok r)
  where
    by : (ok r : Bool) → (ok && r) && same_by g (drop (suc n) s) (drop (suc n) t) ≡ ok && (r && same_by g (drop (suc n) s) (drop (suc n) t))
    by true r = refl
    by false r = refl

pub same_done : (g : Bool) (s t : List ℕ) (n : ℕ) (ok : Bool) → length s ≤ n → length t ≤ n → ok && same_by g (drop n s) (drop n t) ≡ ok
same_done g s t n ok h k = rw (drop_of_length-le s h, drop_of_length-le t k, same_none g) (by ok)
  where
    by : (ok : Bool) → ok && true ≡ ok
    by true = refl
    by false = refl

pub unequal : (g : Bool) (xs ys : List ℕ) → (length xs ≡ length ys → ⊥) → eqb (length xs) (length ys) ≡ same_by g xs ys
unequal g xs ys h = ne_eqb (length xs) (length ys) h ∙ sym (same_length g xs ys h)

pub same_lengths : (g : Bool) (s t : List ℕ) (a e b f : ℕ) → e ≤ length s → f ≤ length t → (e - a ≡ f - b → ⊥) → false ≡ same_by g (slice a e s) (slice b f t)
same_lengths g s t a e b f l m h =
    sym (same_length g (slice a e s) (slice b f t) (λ q. h (omega (arith, length-slice a e s l, length-slice b f t m))))

-- a run of octets of a part that is lent: where it ends, and that its end lies in the part
module _ (f : ℕ → Bool) (s : List ℕ) (i e r : ℕ) (h : i ≤ e) (q : r ≡ length (span f (take (e - i) (drop i s))).front) where
  pub run_end : i + r ≡ front_end f s i e
  run_end = ap (λ k. i + k) (q ∙ ap (λ t. length (span f t).front) (lent s i e h))

  pub run_within : e ≤ length s → i + r ≤ e
  run_within l = omega (arith, run_end, front_within f s i e h l)

-- the qualifier of a part that begins with a name, and of a part that does not
abbrev pub begins : List ℕ → Bool
begins t = starts_with_letter t && leb (length t) 63

module _ (a : ℕ) where
  cut : (b : Bool) (w : Spanned) → (provided b w >>= if_qualifier a) ≡ cond b (if_qualifier a w) None
  cut true w = refl
  cut false w = refl

passed : (b c : Bool) → b && true && c ≡ b && c
passed true c = refl
passed false c = refl

module _ (s : List ℕ) (a z n : ℕ) (h : a ≤ z) (l : z ≤ length s) (q : n ≡ front_end name_octet s a z) where
  pub is_name_lem : is_name (slice a n s) ≡ begins (slice a n s)
  is_name_lem = rw (q, all_passes name_octet s a z h l) (passed (starts_with_letter (slice a (front_end name_octet s a z) s)) _)

  spanned : span name_octet (slice a z s) ≡ record { front = slice a n s; rest = slice n z s }
  spanned = rw (q, front_rest name_octet s a z, ← front name_octet s a z h l)

  pub named : qualifier (part_in s a z) ≡ cond (begins (slice a n s)) (if_qualifier a (record { front = slice a n s; rest = slice n z s })) None
  named =
      ap (λ w. provided (is_name w.front) w >>= if_qualifier a) spanned ∙ cut a (is_name (slice a n s)) (record { front = slice a n s; rest = slice n z s })
      ∙ ap (λ b. cond b (if_qualifier a (record { front = slice a n s; rest = slice n z s })) None) is_name_lem

  pub found_bad : begins (slice a n s) ≡ false → None ≡ qualifier (part_in s a z)
  found_bad b = rw (named, b)

  module _ (b : begins (slice a n s) ≡ true) where
    pub found_word : n ≡ z → Some (word (slice a z s)) ≡ qualifier (part_in s a z)
    found_word e = rw (named, b, nothing s n z (omega arith), e)

    after_name : n < z → qualifier (part_in s a z) ≡ (provided (eqb (get_or s n 0) 61) (slice (n + 1) z s) >>= λ ds. decimal_of ds >>= λ v. Some (symbol (record { spelling = part_in s a n; value = v })))
    after_name e = rw (named, b, next s n z e l)

    pub found_other : n < z → (get_or s n 0 ≡ 61 → ⊥) → None ≡ qualifier (part_in s a z)
    found_other e o = rw (after_name e, ne_eqb (get_or s n 0) 61 o)

    pub found_fault : n < z → get_or s n 0 ≡ 61 → decimal_of (slice (n + 1) z s) ≡ None → None ≡ qualifier (part_in s a z)
    found_fault e o d = rw (after_name e, eq-eqb (get_or s n 0) 61 o, d)

    pub found_number : (v : ℕ) → n < z → get_or s n 0 ≡ 61 → decimal_of (slice (n + 1) z s) ≡ Some v → Some (symbol (record { spelling = part_in s a n; value = v })) ≡ qualifier (part_in s a z)
    found_number v e o d = rw (after_name e, eq-eqb (get_or s n 0) 61 o, d)

-- whether a part that is lent begins like a name
pub begins_lent : (s : List ℕ) (a n : ℕ) (r t : Bool) → a ≤ n → r ≡ begins (take (n - a) (drop a s)) → r ≡ t → begins (slice a n s) ≡ t
begins_lent s a n r t h e k = sym (e ∙ ap begins (lent s a n h)) ∙ k

-- words: no type takes a word that is not one letter
pub letter_word : (s : List ℕ) (a z : ℕ) → a ≤ z → z ≤ length s → z - a ≡ 1 → slice a z s ≡ get_or s a 0 ∷ []
letter_word s a z h l q = rw (next s a z (omega arith) l, nothing s (a + 1) z (omega arith))

long : (w : List ℕ) (x : ℕ) → (length w ≡ 1 → ⊥) → same_octets w (x ∷ []) ≡ false
long [] x h = refl
long (y ∷ []) x h = absurd (h refl)
long (y ∷ z ∷ w) x h = simp and-false

long_known : (w : List ℕ) → (length w ≡ 1 → ⊥) → known_word w ≡ false
long_known w h = rw (long w (code "L") h, long w (code "C") h, long w (code "A") h, long w (code "O") h, long w (code "M") h, long w (code "X") h)

long_taken : (t : Words) (w : List ℕ) → (length w ≡ 1 → ⊥) → has_word (words_for t) w ≡ false
long_taken OnR w h = rw (long w (code "L") h)
long_taken OnN w h = rw (long w (code "C") h, long w (code "A") h, long w (code "L") h, long w (code "O") h)
long_taken OnS w h = rw (long w (code "M") h, long w (code "X") h)
long_taken OnX w h = rw (long w (code "C") h)

pub none_taken : (t : Words) → has_word (words_for t) [] ≡ false
none_taken t = long_taken t [] (λ e. omega arith)

pub long_word : (t : Test) (w : List ℕ) → (length w ≡ 1 → ⊥) → holds_of t (Some (word [])) ≡ holds_of t (Some (word w))
long_word Malformed w h = refl
long_word Unknown w h = rw (long_known w h)
long_word (NotSymbol limit) w h = refl
long_word (NotWord t) w h = rw (long_taken t w h, none_taken t)
long_word (IsWord x) [] h = refl
long_word (IsWord x) (y ∷ []) h = absurd (h refl)
long_word (IsWord x) (y ∷ z ∷ w) h = simp and-false

-- of a symbol, a test looks at the number only
pub any_symbol : (t : Test) (p q : Part) (v : ℕ) → holds_of t (Some (symbol (record { spelling = p; value = v }))) ≡ holds_of t (Some (symbol (record { spelling = q; value = v })))
any_symbol Malformed p q v = refl
any_symbol Unknown p q v = refl
any_symbol (NotSymbol limit) p q v = refl
any_symbol (NotWord w) p q v = refl
any_symbol (IsWord x) p q v = refl

-- the pieces between commas: the first, and those after it
abbrev pub not_comma : ℕ → Bool
not_comma x = not (eqb x (code ","))

module _ (s : List ℕ) (i b z : ℕ) (h : i ≤ b) (l : b ≤ length s) (q : z ≡ front_end not_comma s i b) where
  pub within : (i ≤ z) × (z ≤ b)
  within = (omega arith, omega (arith, front_within not_comma s i b h l))

  pieces : pieces_in s i b ≡ placed i (slice i z s ∷ cut_rest (code ",") (slice z b s))
  pieces = rw (q, cut_first (code ",") (slice i b s), front_rest not_comma s i b, ← front not_comma s i b h l)

  pub last_piece : z ≡ b → pieces_in s i b ≡ part_in s i z ∷ []
  last_piece e = rw (pieces, nothing s z b (omega arith))

  pub next_piece : (z ≡ b → ⊥) → pieces_in s i b ≡ part_in s i z ∷ pieces_in s (z + 1) b
  next_piece e =
      let m : i + length (slice i z s) ≡ z = omega (arith, length-slice i z s (omega (arith, within)), within) in
      rw (pieces, next s z b (omega (arith, within)) l, m)

  module _ (f : Part → Bool) where
    pub any_found : f (part_in s i z) ≡ true → any_of f (pieces_in s i b) ≡ true
    any_found e = rw pieces (by (slice z b s))
      where
        by : (r : List ℕ) → any_of f (placed i (slice i z s ∷ cut_rest (code ",") r)) ≡ true
        by [] = rw e
        by (y ∷ ys) = rw e

    pub any_last : z ≡ b → f (part_in s i z) ≡ false → any_of f (pieces_in s i b) ≡ false
    any_last m e = rw (last_piece m, e)

    pub any_next : (z ≡ b → ⊥) → f (part_in s i z) ≡ false → any_of f (pieces_in s (z + 1) b) ≡ any_of f (pieces_in s i b)
    any_next m e = rw (next_piece m, e)

  pub name_within : (n : ℕ) → n ≡ front_end name_octet s i z → (i ≤ n) × (n ≤ z)
  name_within n e = (omega arith, omega (arith, front_within name_octet s i z within.0 (omega (arith, within))))

  pub name_in_lem : (n : ℕ) → n ≡ front_end name_octet s i z → name_in (part_in s i z) ≡ slice i n s
  name_in_lem n e = rw e (front name_octet s i z within.0 (omega (arith, within)))

  module _ (g : Bool) (n : ℕ) (e : n ≡ front_end name_octet s i z) where
    twice_next : (z ≡ b → ⊥) → twice_in g s i b ≡ any_of (λ p. same_by g (slice i n s) (name_in p)) (pieces_in s (z + 1) b) || twice_in g s (z + 1) b
    twice_next m = rw (next_piece m, ← name_in_lem n e) (ap (λ d. d || twice_in g s (z + 1) b) (any_map (pieces_in s (z + 1) b)))
      where
        any_map : (ps : List Part) → any_of (same_by g (name_in (part_in s i z))) (map name_in ps) ≡ any_of (λ p. same_by g (name_in (part_in s i z)) (name_in p)) ps
        any_map [] = refl
        any_map (p ∷ ps) = rw (any_map ps)

    module _ (m : z ≡ b → ⊥) (r : Bool) (d : r ≡ any_of (λ p. same_by g (slice i n s) (name_in p)) (pieces_in s (z + 1) b)) where
      pub twice_on : r ≡ false → twice_in g s (z + 1) b ≡ twice_in g s i b
      twice_on t = rw (twice_next m, ← d, t)

  pub twice_last : (g : Bool) → z ≡ b → false ≡ twice_in g s i b
  twice_last g m = rw (last_piece m)
