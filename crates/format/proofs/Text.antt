-- Octets that are counted pieces, and S, S[M] and S[X]: read back, bounded, accepted.
use Prim.Native.Nat.{ℕ, zero, suc, ◌+◌, ◌*◌, ◌≤◌}
use mathlib.Core.Path.{◌≡◌, refl, sym, ap, ◌∙◌, subst}
use mathlib.Core.Bool.{Bool, true, false, cond}
use mathlib.Core.List.{List, [], ◌∷◌, ◌++◌, map, append_assoc, append-nil}
use Rattle.std.specs.Prelude.{Option, None, Some}
use native.Mathlib.Omega.{arith}
use lib.ListN.{length, drop, length-append, length-drop}
use Rattle.format.specs.Lists.{◌>>=◌, cons_both, each_of, null, flat, flat_map, parted}
use Rattle.format.specs.Octets.{Octets, ascii, in_range, among}
use Rattle.format.specs.Wire.{Stage, count, to_the_end, string_count, string_octet, fault, go, step, may_end, took, taken}
use Rattle.format.specs.Field.{str, strs, raw}
use Rattle.format.specs.Number.{fixed_decimal}
use Rattle.format.specs.Token.{Token, quoted, between, scanned, escaped}
use Rattle.format.specs.Text.{pieces, with_count, counted, string_escape, string_text, string_value, read_string, not_empty, read_raw}
use Rattle.format.specs.Grammar.{after}
use Rattle.format.specs.Catalogue.{TypeName}
use Rattle.format.specs.Run.{shown, got, one_token, read_field}
use Rattle.format.proofs.Lists.{bind_some, provided_some, below_parts}
use Rattle.format.proofs.Wire.{at_end_lem, takes_end, end_some, one_less}
use Rattle.format.proofs.Token.{Parted, at_end_of_text, spaced, quote_scanned, strings_kept, string_read, none_scanned, space_scanned}
use Rattle.format.proofs.Field.{Back, FieldLaws, got_some, token_accepted, not_empty_lem, counted_accepted, Counted, is_counted, counted_octets, counted_some}

-- pieces, each after its count
pieces_before : (s q : List ℕ) → pieces (with_count s ++ q) ≡ s ∷ pieces q
pieces_before [] [] = refl
pieces_before [] (c ∷ q) = refl
pieces_before (x ∷ s) q = rw (pieces_before s q)

pub all_pieces : (ss : List (List ℕ)) → pieces (flat_map with_count ss) ≡ ss
all_pieces [] = refl
all_pieces (s ∷ ss) = rw (pieces_before s (flat_map with_count ss), all_pieces ss)

-- texts of at most four octets for each octet of a piece, two more, and a separator between them
pub counted_bound : (c : ℕ) (g : List ℕ → List ℕ) → ((s : List ℕ) → length (g s) ≤ 4 * length s + 2) → (ss : List (List ℕ)) → length (parted (c ∷ []) (map g ss)) ≤ 4 * length (flat_map with_count ss)
counted_bound c g h [] = omega arith
counted_bound c g h (s ∷ []) = omega (arith, h s, length-append s [])
counted_bound c g h (s ∷ t ∷ ss) =
    omega (arith, h s, counted_bound c g h (t ∷ ss), length-append s (flat_map with_count (t ∷ ss)), length-append (g s) (c ∷ []), length-append (g s ++ c ∷ []) (parted (c ∷ []) (map g (t ∷ ss))))

-- an escape is at most four octets
pub escape_bound : (lo : ℕ) (special : List ℕ) (x : ℕ) → length (escaped lo special x) ≤ 4
escape_bound lo special x = by (among x special) (in_range lo 126 x) (fixed_decimal 3 x) (omega arith)
  where
    by : (a b : Bool) (t : List ℕ) → length t ≤ 3 → length (cond a (92 ∷ x ∷ []) (cond b (x ∷ []) (92 ∷ t))) ≤ 4
    by true b t h = omega arith
    by false true t h = omega arith
    by false false t h = omega arith

pub escapes_bound : (g : ℕ → List ℕ) → ((x : ℕ) → length (g x) ≤ 4) → (xs : List ℕ) → length (flat_map g xs) ≤ 4 * length xs
escapes_bound g h [] = omega arith
escapes_bound g h (x ∷ xs) = omega (arith, h x, escapes_bound g h xs, length-append (g x) (flat_map g xs))

string_bound : (xs : List ℕ) → length (string_text xs) ≤ 4 * length xs + 2
string_bound xs = omega (arith, escapes_bound string_escape (escape_bound 0x20 (ascii "\"\\")) xs, length-append (flat_map string_escape xs) (34 ∷ []))

-- one quoted token
string_scanned : (s r : List ℕ) → Octets s → Parted r → scanned between (string_text s ++ r) ≡ quoted (flat_map string_escape s) ∷ scanned between r
string_scanned s r b q = quote_scanned (flat_map string_escape s) r (strings_kept s b) q

string_reads : (s : List ℕ) → Octets s → length s ≤ 255 → read_string (quoted (flat_map string_escape s)) ≡ Some (with_count s)
string_reads s b h = let (is, g, k) = string_read s b in rw (g, k) (counted_some 0 s (omega arith) h)

string_back : (f : List ℕ → Option (List ℕ)) (s p r : List ℕ) → Octets s → f s ≡ Some p → Parted r → one_token (λ t. string_value t >>= f) (scanned between (string_text s ++ r)) ≡ got p (scanned between r)
string_back f s p r b e q = let (is, g, h) = string_read s b in rw (string_scanned s r b q, g, h, e)

pub str_laws : (c : List TypeName) → FieldLaws c str
unfolding Back shown read_field
str_laws c = record {
  back = λ o p b e r q t. back p r (counted_octets 0 p e) b q;
  bound = λ p b e. omega (arith, string_bound (drop 1 p), length-drop 1 p);
  accepted = λ o n ts us p e. token_accepted (count 0) read_string (λ t p e. let (u, a, b) = bind_some (string_value t) (counted 0) p e in counted_accepted 0 u p b) ts us p e;
}
  where
    back : (p r : List ℕ) → Counted 0 p → Octets p → Parted r → one_token read_string (scanned between (string_text (drop 1 p) ++ r)) ≡ got p (scanned between r)
    back p r (is_counted xs c l) b q =
        let d : Octets (with_count xs) = rw c at b in
        rw c (string_back (counted 0) xs (with_count xs) r d.1 (counted_some 0 xs l (omega (arith, d.0))) q)

pub raw_laws : (c : List TypeName) → FieldLaws c raw
unfolding Back shown read_field
raw_laws c = record {
  back = λ o p b e r q t. back p r (end_some p e) b q;
  bound = λ p b e. omega (arith, string_bound p);
  accepted = λ o n ts us p e. token_accepted (to_the_end false) read_raw (λ t p e. let (u, a, b) = bind_some (string_value t) not_empty p e in takes_end false p (λ z. not_empty_lem u p b)) ts us p e;
}
  where
    back : (p r : List ℕ) → 1 ≤ length p → Octets p → Parted r → one_token read_raw (scanned between (string_text p ++ r)) ≡ got p (scanned between r)
    back [] r n b q = absurd (omega arith)
    back (x ∷ p) r n b q = string_back not_empty (x ∷ p) (x ∷ p) r b refl q

-- where an octet goes on if a test holds
pub went_on : (s u : Stage) (c : Bool) (x : ℕ) (xs : List ℕ) (n : ℕ) → step s x ≡ cond c (go u) fault → taken s (x ∷ xs) ≡ took (suc n) → (c ≡ true) × (taken u xs ≡ took n)
unfolding taken
went_on s u true x xs n g e = (refl, one_less (taken u xs) n (rw g at e))
went_on s u false x xs n g e = let z : ◌≡◌ {A = ℕ} 0 1 = cc (rw g at e) in absurd (omega arith)

-- A piece is taken octet by octet, and then what comes after it: for strings to the end and for labels.
module _ (inside : ℕ → Stage) (after : Stage) (last : (x : ℕ) → step (inside 0) x ≡ go after) (more : (n x : ℕ) → step (inside (suc n)) x ≡ go (inside n)) (unfinished : (n : ℕ) → may_end (inside n) ≡ false) where
  pub piece_taken : (n : ℕ) (xs : List ℕ) → taken (inside n) xs ≡ took (length xs) → (s : List ℕ) × (q : List ℕ) × (xs ≡ s ++ q) × (length s ≡ suc n) × (taken after q ≡ took (length q))
  piece_taken n [] e = let z : ◌≡◌ {A = ℕ} 0 1 = cc ((at_end_lem (inside n) 0 e).0, unfinished n) in absurd (omega arith)
  piece_taken zero (x ∷ xs) e = (x ∷ [], xs, refl, refl, (went_on (inside 0) after true x xs (length xs) (last x) e).1)
  piece_taken (suc n) (x ∷ xs) e =
      let (s, q, f, l, g) = piece_taken n xs (went_on (inside (suc n)) (inside n) true x xs (length xs) (more n x) e).1 in
      (x ∷ s, q, ap (λ r. x ∷ r) f, ap suc l, g)

  pub takes_piece : (n : ℕ) (s q : List ℕ) → length s ≡ suc n → taken after q ≡ took (length q) → taken (inside n) (s ++ q) ≡ took (length (s ++ q))
  unfolding taken
  takes_piece n [] q l e = absurd (omega arith)
  takes_piece zero (x ∷ []) q l e = rw (last x, e)
  takes_piece zero (x ∷ y ∷ s) q l e = absurd (omega arith)
  takes_piece (suc n) (x ∷ s) q l e = rw (more n x, takes_piece n s q (omega arith) e)

pub with_rest : (n : ℕ) (p s q r : List ℕ) → p ≡ s ++ q → length s ≡ n → q ≡ r → n ∷ p ≡ with_count s ++ r
with_rest n p s q r e l f = rw (e, ← l, f)

-- strings, each of at most 255 octets
abbrev Strings : List (List ℕ) → Type 0
Strings [] = Unit {0}
Strings (s ∷ ss) = (length s ≤ 255) × Octets s × Strings ss

strings_taken : (m : ℕ) (b : Bool) (p : List ℕ) → length p ≤ m → Octets p → taken (string_count b) p ≡ took (length p) → (ss : List (List ℕ)) × (p ≡ flat_map with_count ss) × Strings ss
strings_taken zero b [] h o e = ([], refl, tt)
strings_taken zero b (c ∷ p) h o e = absurd (omega arith)
strings_taken (suc m) b [] h o e = ([], refl, tt)
strings_taken (suc m) b (zero ∷ p) h o e =
    let (ss, f, g) = strings_taken m true p (omega arith) o.1 (went_on (string_count b) (string_count true) true zero p (length p) refl e).1 in
    ([] ∷ ss, with_rest zero p [] p (flat_map with_count ss) refl refl f, (omega arith, tt, g))
strings_taken (suc m) b (suc n ∷ p) h o e =
    let (s, q, f, l, t) = piece_taken string_octet (string_count true) (λ x. refl) (λ n x. refl) (λ n. refl) n p (went_on (string_count b) (string_octet n) true (suc n) p (length p) refl e).1 in
    let (c, d) = below_parts 256 s q (rw f at o).1 in
    let (ss, g, k) = strings_taken m true q (omega (arith, ap length f, length-append s q)) d t in
    (s ∷ ss, with_rest (suc n) p s q (flat_map with_count ss) f l g, (omega (arith, o.0), c, k))

-- their text reads to them
list_read : (ss : List (List ℕ)) → Strings ss → each_of read_string (scanned between (parted (32 ∷ []) (map string_text ss))) ≡ Some (map with_count ss)
list_read [] h = rw none_scanned
list_read (s ∷ []) h = rw (← (append-nil (string_text s))) (rw (string_scanned s [] h.1 at_end_of_text, none_scanned, string_reads s h.1 h.0))
list_read (s ∷ t ∷ ss) h =
    rw (
      append_assoc (string_text s) (32 ∷ []) (parted (32 ∷ []) (map string_text (t ∷ ss))),
      string_scanned s (32 ∷ parted (32 ∷ []) (map string_text (t ∷ ss))) h.1 (spaced (parted (32 ∷ []) (map string_text (t ∷ ss)))),
      space_scanned (parted (32 ∷ []) (map string_text (t ∷ ss))),
      string_reads s h.1 h.0,
      list_read (t ∷ ss) h.2,
    )

-- what strings read to is taken
string_before : (b : Bool) (s q : List ℕ) → taken (string_count true) q ≡ took (length q) → taken (string_count b) (with_count s ++ q) ≡ took (suc (length (s ++ q)))
unfolding taken
string_before b [] q e = rw e
string_before b (x ∷ s) q e = rw (takes_piece string_octet (string_count true) (λ x. refl) (λ n x. refl) (λ n. refl) (length s) (x ∷ s) q refl e)

both_some : {A : Type 0} (o : Option A) (v : Option (List A)) (l : List A) → cons_both o v ≡ Some l → (x : A) × (xs : List A) × (o ≡ Some x) × (v ≡ Some xs) × (l ≡ x ∷ xs)
both_some None v l e = let z : ◌≡◌ {A = ℕ} 0 1 = cc in absurd (omega arith)
both_some (Some x) None l e = let z : ◌≡◌ {A = ℕ} 0 1 = cc in absurd (omega arith)
both_some (Some x) (Some xs) l e = (x, xs, refl, refl, cc)

strings_accepted : (b : Bool) (ts : List Token) (l : List (List ℕ)) → (null ts ≡ true → b ≡ true) → each_of read_string ts ≡ Some l → taken (string_count b) (flat l) ≡ took (length (flat l))
unfolding taken
strings_accepted b [] l n e = let f : l ≡ [] = cc in rw (f, n refl)
strings_accepted b (t ∷ ts) l n e =
    let (x, xs, f, g, k) = both_some (read_string t) (each_of read_string ts) l e in
    let (s, a, c) = bind_some (string_value t) (counted 0) x f in
    let (d, w) = provided_some (in_range 0 255 (length s)) (with_count s) x c in
    subst (λ v. taken (string_count b) (flat v) ≡ took (length (flat v))) (sym (k ∙ ap (λ y. y ∷ xs) (sym w))) (string_before b s (flat xs) (strings_accepted true ts xs (λ z. refl) g))

flat_map_lem : {A B : Type 0} (f : A → List B) (xs : List A) → flat (map f xs) ≡ flat_map f xs
flat_map_lem f [] = refl
flat_map_lem f (x ∷ xs) = rw (flat_map_lem f xs)

pub strs_laws : (c : List TypeName) → FieldLaws c strs
unfolding Back shown read_field
strs_laws c = record {
  back = λ o p b e r q t. let (ss, f, g) = strings_taken (length p) false p (omega arith) b e in back o p r ss f g e (t refl);
  bound = λ p b e. let (ss, f, g) = strings_taken (length p) false p (omega arith) b e in omega (arith, bound p ss f);
  accepted = λ o n ts us p e. accepted o ts us p e;
}
  where
    reads : (o : List ℕ) (ts : List Token) (s : List ℕ) (ss : List (List ℕ)) → each_of read_string ts ≡ Some (map with_count (s ∷ ss)) → read_field c strs o ts ≡ got (flat_map with_count (s ∷ ss)) []
    reads o [] s ss e = cc
    reads o (t ∷ ts) s ss e = rw (e, flat_map_lem with_count ss)

    back : (o p r : List ℕ) (ss : List (List ℕ)) → p ≡ flat_map with_count ss → Strings ss → taken (string_count false) p ≡ took (length p) → r ≡ []
        → read_field c strs o (scanned between (shown c strs p ++ r)) ≡ got p (scanned between r)
    back o p r [] f g e z = let y : ◌≡◌ {A = ℕ} 0 1 = cc (at_end_lem (string_count false) 0 (rw f at e)).0 in absurd (omega arith)
    back o p r (s ∷ ss) f g e z =
        rw (z, append-nil (shown c strs p), f, all_pieces (s ∷ ss), none_scanned) (reads o (scanned between (parted (32 ∷ []) (map string_text (s ∷ ss)))) s ss (list_read (s ∷ ss) g))

    bound : (p : List ℕ) (ss : List (List ℕ)) → p ≡ flat_map with_count ss → length (shown c strs p) ≤ 4 * length p
    bound p ss f = rw (f, all_pieces ss) (counted_bound 32 string_text string_bound ss)

    accepted : (o : List ℕ) (ts us : List Token) (p : List ℕ) → read_field c strs o ts ≡ got p us → taken (string_count false) p ≡ took (length p)
    accepted o [] us p e = let z : ◌≡◌ {A = ℕ} 0 1 = cc in absurd (omega arith)
    accepted o (t ∷ ts) us p e =
        let (l, a, d) = bind_some (each_of read_string (t ∷ ts)) (λ l. Some (flat l)) p (got_some (each_of read_string (t ∷ ts) >>= λ l. Some (flat l)) [] us p e) in
        let w : flat l ≡ p = cc in
        rw w at (strings_accepted false (t ∷ ts) l (λ z. z) a)
