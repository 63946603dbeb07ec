-- Base 64 from all tokens that are left: its alphabet, its padding, and what any other octet does.
use Prim.Native.Nat.{ℕ, zero, suc, ◌+◌, ◌*◌, ◌-◌, ◌%◌, ◌≤◌, ◌<◌}
use mathlib.Core.Path.{◌≡◌, refl, sym, ap, subst, ◌∙◌}
use mathlib.Core.Bool.{Bool, true, false, not, cond, ◌||◌, and-false}
use mathlib.Core.List.{List, [], ◌∷◌, ◌++◌, append-nil}
use Rattle.std.specs.Prelude.{Option, None, Some, Ok}
use native.Mathlib.Omega.{arith}
use native.Mathlib.Decide.{dec_le}
use lib.Dec.{eqb}
use lib.ListN.{length, get_or, drop, replicate, length-append}
use borrow.Author.Tests.{le-leb, lt-leb, le-ltb, eqb-true, ne_eqb}
use Rattle.format.specs.Lists.{◌>>=◌, cons_both, each_of, all_of, Spanned, spanning, span}
use Rattle.format.specs.Octets.{Octets, blank, same_octets}
use Rattle.format.specs.Token.{tokens}
use Rattle.format.specs.Digits.{digits}
use Rattle.format.specs.Base.{bits, whole_octets, from_digits, base64_value, padding, not_padding, unpadded, read_base64}
use Rattle.format.specs.Run.{no_token, bad_token, joined_bares}
use Rattle.format.proofs.Lists.{implied, and_left, and_right, or_left, or_right, below_drop, drop_none}
use Rattle.format.proofs.Finite.{at_each, all_same}
use Rattle.format.proofs.Token.{plainly}
use Rattle.format.proofs.Base.{bits_length}
use Rattle.buffer.specs.Writing.{Values}
use Rattle.base_group.specs.Group.{char_value, left_out, without, Stops, Taken, Groups, base64_numbers}
use Rattle.base.specs.Rest.{Gets}
use Rattle.base_group.proofs.GroupDigits.{without_on, without_next, each_none, all_parts, all_read, front_all}
use Rattle.base_group.proofs.Letters.{there, no_digit, same_bool, same_bool_lem, without_blanks, each_same, octets_front, without_octets}
use Rattle.base.proofs.Joined.{joined_text, joined_is, text_fault, text_got, nothing_stored}

-- the alphabet
chars64 : (x : ℕ) → x < 256 → char_value base64_numbers 64 x ≡ base64_value x
unfolding base64_numbers
chars64 = all_same 256 (char_value base64_numbers 64) base64_value refl

blanks64 : (x : ℕ) → x < 256 → left_out base64_numbers 64 x ≡ blank x
unfolding base64_numbers
blanks64 x h = same_bool_lem (left_out base64_numbers 64 x) (blank x) (at_each (λ y. same_bool (left_out base64_numbers 64 y) (blank y)) 256 refl x h)

-- the longest front of a list that begins with elements that pass
module _ (f : ℕ → Bool) where
  span_on : (xs ys : List ℕ) → all_of f xs ≡ true → ((span f (xs ++ ys)).front ≡ xs ++ (span f ys).front) × ((span f (xs ++ ys)).rest ≡ (span f ys).rest)
  span_on [] ys h = (refl, refl)
  span_on (x ∷ xs) ys h =
      let p : f x ≡ true = and_left (f x) (all_of f xs) h in
      let q = span_on xs ys (and_right (f x) (all_of f xs) h) in
      (rw (p, q.0), rw (p, q.1))

  -- an element that passes stands in the front or in the rest
  data Held (x : ℕ) (s : Spanned) : Type 0 where
    in_front : (us vs : List ℕ) → s.front ≡ us ++ x ∷ vs → Held x s
    in_rest : (us vs : List ℕ) → s.rest ≡ us ++ x ∷ vs → Held x s

  held : (x : ℕ) → f x ≡ true → (p ys : List ℕ) → Held x (span f (p ++ x ∷ ys))
  held x h [] ys = in_front [] (span f ys).front (rw h)
  held x h (y ∷ p) ys = by (f y) refl (held x h p ys)
    where
      by : (b : Bool) → f y ≡ b → Held x (span f (p ++ x ∷ ys)) → Held x (spanning (f y) y (p ++ x ∷ ys) (span f (p ++ x ∷ ys)))
      by true e (in_front us vs q) = in_front (y ∷ us) vs (rw (e, q))
      by true e (in_rest us vs q) = in_rest us vs (rw (e, q))
      by false e k = in_rest (y ∷ p) ys (rw e)

each_first : (f : ℕ → Option ℕ) (x : ℕ) (xs ds : List ℕ) → each_of f (x ∷ xs) ≡ Some ds → (d : ℕ) × (es : List ℕ) × (f x ≡ Some d) × (each_of f xs ≡ Some es) × (ds ≡ d ∷ es)
each_first f x xs ds e = by (f x) (each_of f xs) refl refl e
  where
    by : (o : Option ℕ) (s : Option (List ℕ)) → f x ≡ o → each_of f xs ≡ s → cons_both o s ≡ Some ds → (d : ℕ) × (es : List ℕ) × (f x ≡ Some d) × (each_of f xs ≡ Some es) × (ds ≡ d ∷ es)
    by None s a b c = let z : ◌≡◌ {A = ℕ} 0 1 = cc in absurd (omega arith)
    by (Some d) None a b c = let z : ◌≡◌ {A = ℕ} 0 1 = cc in absurd (omega arith)
    by (Some d) (Some es) a b c = (d, es, a, b, cc)

each_length : (f : ℕ → Option ℕ) (xs ds : List ℕ) → each_of f xs ≡ Some ds → length xs ≡ length ds
each_length f [] ds e = let z : ds ≡ [] = cc in rw z
each_length f (x ∷ xs) ds e = let q = each_first f x xs ds e in rw q.4 (ap suc (each_length f xs q.1 q.3))

char_passes : (x d : ℕ) → base64_value x ≡ Some d → not_padding x ≡ true
char_passes x d e = by (eqb x 61) refl
  where
    by : (b : Bool) → eqb x 61 ≡ b → not b ≡ true
    by false p = refl
    by true p = let q : None ≡ Some d = ap base64_value (sym (eqb-true x 61 p)) ∙ e in cc

chars_pass : (xs ds : List ℕ) → each_of base64_value xs ≡ Some ds → all_of not_padding xs ≡ true
chars_pass [] ds e = refl
chars_pass (x ∷ xs) ds e = let q = each_first base64_value x xs ds e in rw (char_passes x q.0 q.2) (chars_pass xs q.1 q.3)

-- an octet that is not `=` is no padding
no_padding : (us : List ℕ) (x : ℕ) (vs : List ℕ) (k : ℕ) → eqb x 61 ≡ false → same_octets (us ++ x ∷ vs) (replicate k 61) ≡ false
no_padding [] x vs zero h = refl
no_padding [] x vs (suc k) h = rw h
no_padding (a ∷ us) x vs zero h = refl
no_padding (a ∷ us) x vs (suc k) h = rw (no_padding us x vs k h) (and-false (eqb a 61))

no_octets : (b : Bool) → ◌≡◌ {A = Option (List ℕ)} (cond b None None) None
no_octets true = refl
no_octets false = refl

unpadded_is : (s : Spanned) (front rest : List ℕ) → s.front ≡ front → s.rest ≡ rest → unpadded s ≡ cond (same_octets rest (padding (length front))) (each_of base64_value front >>= from_digits 6) None
unpadded_is s front rest p q = rw (p, q)

-- a text that does not begin with a digit
abbrev Ends : List ℕ → Type 0
Ends [] = Unit {0}
Ends (y ∷ ys) = base64_value y ≡ None

module _ (xs ds : List ℕ) (e : each_of base64_value xs ≡ Some ds) where
  at_end_lem : (ys : List ℕ) → (span not_padding ys).front ≡ [] → (span not_padding ys).rest ≡ ys → read_base64 (xs ++ ys) ≡ cond (same_octets ys (padding (length xs))) (from_digits 6 ds) None
  at_end_lem ys p q =
      let s = span_on not_padding xs ys (chars_pass xs ds e) in
      unpadded_is (span not_padding (xs ++ ys)) xs ys (s.0 ∙ ap (λ zs. xs ++ zs) p ∙ append-nil xs) (s.1 ∙ q) ∙ ap (λ o. cond (same_octets ys (padding (length xs))) (o >>= from_digits 6) None) e

  -- the octets of digits that are followed by exactly their padding
  padded_text : (ys : List ℕ) → Ends ys → read_base64 (xs ++ ys) ≡ cond (same_octets ys (padding (length xs))) (from_digits 6 ds) None
  padded_text [] h = at_end_lem [] refl refl
  padded_text (y ∷ ys) h = by (eqb y 61) refl
    where
      by : (b : Bool) → eqb y 61 ≡ b → read_base64 (xs ++ y ∷ ys) ≡ cond (same_octets (y ∷ ys) (padding (length xs))) (from_digits 6 ds) None
      by true p = at_end_lem (y ∷ ys) (rw p) (rw p)
      by false p =
          let s = span_on not_padding xs (y ∷ ys) (chars_pass xs ds e) in
          let f : (span not_padding (y ∷ ys)).front ≡ y ∷ (span not_padding ys).front = rw p in
          let r : (span not_padding (y ∷ ys)).rest ≡ (span not_padding ys).rest = rw p in
          unpadded_is (span not_padding (xs ++ y ∷ ys)) (xs ++ y ∷ (span not_padding ys).front) (span not_padding ys).rest (s.0 ∙ ap (λ zs. xs ++ zs) f) (s.1 ∙ r)
          ∙ ap (λ o. cond (same_octets (span not_padding ys).rest (padding (length (xs ++ y ∷ (span not_padding ys).front)))) (o >>= from_digits 6) None) (each_none base64_value xs y (span not_padding ys).front h)
          ∙ no_octets (same_octets (span not_padding ys).rest (padding (length (xs ++ y ∷ (span not_padding ys).front))))
          ∙ sym (ap (λ b. cond b (from_digits 6 ds) None) (no_padding [] y ys ((4 - length xs % 4) % 4) p))

-- a digit or `=`; any other octet makes reading fail
abbrev character : ℕ → Bool
character x = there (base64_value x) || eqb x 61

far : (x : ℕ) → 256 ≤ x → character x ≡ false
far x h = rw (le-leb 65 x (omega arith), lt-leb x 90 (omega arith), le-leb 97 x (omega arith), lt-leb x 122 (omega arith), le-leb 48 x (omega arith), lt-leb x 57 (omega arith), ne_eqb x 43 (λ q. omega arith), ne_eqb x 47 (λ q. omega arith), ne_eqb x 61 (λ q. omega arith))

plain_character : (x : ℕ) → character x ≡ true → plainly x ≡ true
plain_character x h = by (dec_le 256 x)
  where
    by : Dec (256 ≤ x) → plainly x ≡ true
    by (yes k) = let q : false ≡ true = sym (far x k) ∙ h in cc
    by (no k) = implied (character x) (plainly x) (at_each (λ y. not (character y) || plainly y) 256 refl x (omega arith)) h

bad_character : (p : List ℕ) (x : ℕ) (ys : List ℕ) → character x ≡ false → read_base64 (p ++ x ∷ ys) ≡ None
bad_character p x ys h = by (held not_padding x (rw u) p ys)
  where
    u : eqb x 61 ≡ false
    u = or_right (there (base64_value x)) (eqb x 61) h

    v : base64_value x ≡ None
    v = no_digit (base64_value x) (or_left (there (base64_value x)) (eqb x 61) h)

    by : Held not_padding x (span not_padding (p ++ x ∷ ys)) → read_base64 (p ++ x ∷ ys) ≡ None
    by (in_front us vs q) =
        unpadded_is (span not_padding (p ++ x ∷ ys)) (us ++ x ∷ vs) (span not_padding (p ++ x ∷ ys)).rest q refl
        ∙ ap (λ o. cond (same_octets (span not_padding (p ++ x ∷ ys)).rest (padding (length (us ++ x ∷ vs)))) (o >>= from_digits 6) None) (each_none base64_value us x vs v)
        ∙ no_octets (same_octets (span not_padding (p ++ x ∷ ys)).rest (padding (length (us ++ x ∷ vs))))
    by (in_rest us vs q) =
        unpadded_is (span not_padding (p ++ x ∷ ys)) (span not_padding (p ++ x ∷ ys)).front (us ++ x ∷ vs) refl q
        ∙ ap (λ b. cond b (each_of base64_value (span not_padding (p ++ x ∷ ys)).front >>= from_digits 6) None) (no_padding us x vs ((4 - length (span not_padding (p ++ x ∷ ys)).front % 4) % 4) u)

-- only the empty text reads to no octets
cons_some : (y : ℕ) (o : Option (List ℕ)) → cons_both (Some y) o ≡ Some [] → ⊥
cons_some y None e = let z : ◌≡◌ {A = ℕ} 0 1 = cc in omega arith
cons_some y (Some ys) e = let z : ◌≡◌ {A = ℕ} 0 1 = cc in omega arith

few_left : (w m v : ℕ) (bs : List ℕ) → 0 < m → whole_octets w m v bs ≡ Some [] → length bs < m
few_left w m v [] h e = h
few_left w zero v (b ∷ bs) h e = absurd (omega arith)
few_left w (suc zero) v (b ∷ bs) h e = absurd (cons_some (v * 2 + b) (whole_octets w 8 0 bs) e)
few_left w (suc (suc m)) v (b ∷ bs) h e = let q : length bs < suc m = few_left w (suc m) (v * 2 + b) bs (omega arith) e in omega arith

octets_some : (d : ℕ) (ds : List ℕ) → from_digits 6 (d ∷ ds) ≡ Some [] → ⊥
octets_some d [] e = let z : ◌≡◌ {A = ℕ} 0 1 = cc in omega arith
octets_some d (c ∷ ds) e = omega (arith, few_left 6 8 0 (bits 6 (d ∷ c ∷ ds)) (omega arith) e, bits_length 6 (d ∷ c ∷ ds))

some_base64 : (xs : List ℕ) → read_base64 xs ≡ Some [] → joined_text read_base64 xs ≡ no_token
some_base64 [] e = refl
some_base64 (x ∷ xs) e = absurd (by (not_padding x) refl)
  where
    of : (b : Bool) (o : Option ℕ) (s : Option (List ℕ)) → cond b (cons_both o s >>= from_digits 6) None ≡ Some [] → ⊥
    of false o s q = let z : ◌≡◌ {A = ℕ} 0 1 = cc in omega arith
    of true None s q = let z : ◌≡◌ {A = ℕ} 0 1 = cc in omega arith
    of true (Some d) None q = let z : ◌≡◌ {A = ℕ} 0 1 = cc in omega arith
    of true (Some d) (Some ds) q = octets_some d ds q

    by : (b : Bool) → not_padding x ≡ b → ⊥
    by true p =
        let f : (span not_padding (x ∷ xs)).front ≡ x ∷ (span not_padding xs).front = rw p in
        of (same_octets (span not_padding (x ∷ xs)).rest (padding (length (x ∷ (span not_padding xs).front)))) (base64_value x) (each_of base64_value (span not_padding xs).front) (sym (unpadded_is (span not_padding (x ∷ xs)) (x ∷ (span not_padding xs).front) (span not_padding (x ∷ xs)).rest f refl) ∙ e)
    by false p =
        let f : (span not_padding (x ∷ xs)).front ≡ [] = rw p in
        let r : (span not_padding (x ∷ xs)).rest ≡ x ∷ xs = rw p in
        let q : ◌≡◌ {A = Option (List ℕ)} None (Some []) = sym (unpadded_is (span not_padding (x ∷ xs)) [] (x ∷ xs) f r) ∙ e in
        let z : ◌≡◌ {A = ℕ} 0 1 = cc in omega arith

-- there are exactly q of `=` from j on, and nothing else but what is left out
abbrev pub Padded : (ℕ → Bool) → List ℕ → ℕ → ℕ → Bool
Padded f t j q = same_octets (without f (drop j t)) (replicate q 61)

module _ (f : ℕ → Bool) (t : List ℕ) (j : ℕ) (h : j < length t) where
  pub pads_left : (q : ℕ) → f (get_or t j 0) ≡ true → Padded f t (j + 1) q ≡ Padded f t j q
  pads_left q k = rw (without_on f t j h k)

  pub pads_one : (q : ℕ) → f (get_or t j 0) ≡ false → get_or t j 0 ≡ 61 → (q ≡ 0 → ⊥) → Padded f t (j + 1) (q - 1) ≡ Padded f t j q
  pads_one zero k p m = absurd (m refl)
  pads_one (suc q) k p m = let z : suc q - 1 ≡ q = omega arith in rw (z, without_next f t j h k, p)

  pub pads_other : (q : ℕ) → f (get_or t j 0) ≡ false → (get_or t j 0 ≡ 61 → ⊥) → false ≡ Padded f t j q
  pads_other q k p =
      sym (ap (λ xs. same_octets xs (replicate q 61)) (without_next f t j h k) ∙ no_padding [] (get_or t j 0) (without f (drop (j + 1) t)) q (ne_eqb (get_or t j 0) 61 p))

  pub pads_more : (q : ℕ) → f (get_or t j 0) ≡ false → q ≡ 0 → false ≡ Padded f t j q
  pads_more q k z = rw (z, without_next f t j h k)

-- the digits are read, up to an octet that is none
module _ (a : List ℕ) (z : a ≡ base64_numbers) (t : List ℕ) (o : Octets t) (o₀ o₁ : List ℕ) (at n end : ℕ) (b : Groups o₀ o₁ at a 64 6 4 t n end)
    (m q v : ℕ) (s : Taken a 64 64 (drop n t) m q v) (few : q < 4) (stops : n + m < length t → Stops a 64 64 (get_or t (n + m) 0)) where
  characters : (x : ℕ) → x < 256 → char_value a 64 x ≡ base64_value x
  characters x l = ap (λ y. char_value y 64 x) z ∙ chars64 x l

  blanks : (x : ℕ) → x < 256 → left_out a 64 x ≡ blank x
  blanks x l = ap (λ y. left_out y 64 x) z ∙ blanks64 x l

  abbrev front : List ℕ
  front = b.chars ++ s.chars

  abbrev rest : List ℕ
  rest = without blank (drop (n + m) t)

  parts : without (left_out a 64) t ≡ front ++ without (left_out a 64) (drop (n + m) t)
  parts = all_parts o₀ at a 64 6 4 t o₁ n end b m q v s

  octets_rest : Octets (drop (n + m) t)
  octets_rest = below_drop 256 (n + m) t o

  blank_parts : without blank t ≡ front ++ rest
  blank_parts = sym (without_blanks a blanks t o) ∙ parts ∙ ap (λ xs. front ++ xs) (without_blanks a blanks (drop (n + m) t) octets_rest)

  octets_front_lem : Octets front
  octets_front_lem = octets_front front rest (subst Octets blank_parts (without_octets blank t o))

  read : each_of base64_value front ≡ Some (b.all ++ s.ds)
  read = sym (each_same (char_value a 64) base64_value characters front octets_front_lem) ∙ all_read o₀ at a 64 6 4 t o₁ n end b m q v s

  octet_there : (k : ℕ) (xs : List ℕ) → Octets xs → get_or xs k 0 < 256
  octet_there k [] h = omega arith
  octet_there zero (x ∷ xs) h = h.0
  octet_there (suc k) (x ∷ xs) h = octet_there k xs h.1

  stopped : n + m < length t → Ends rest
  stopped k =
      let x : ℕ = get_or t (n + m) 0 in
      let l : x < 256 = octet_there (n + m) t o in
      let p : blank x ≡ false = sym (blanks x l) ∙ (stops k).kept in
      let y : base64_value x ≡ None = sym (characters x l) ∙ rw (le-ltb (get_or a x 0) 64 (stops k).high) in
      subst Ends (sym (without_next blank t (n + m) k p)) y

  ends : Ends rest
  ends = by (dec_le (length t) (n + m))
    where
      by : Dec (length t ≤ n + m) → Ends rest
      by (yes k) = subst (λ xs. Ends (without blank xs)) (sym (drop_none t (n + m) k)) tt
      by (no k) = stopped (omega arith)

  text : read_base64 (without blank t) ≡ cond (same_octets rest (padding (length front))) (from_digits 6 (b.all ++ s.ds)) None
  text = ap read_base64 blank_parts ∙ padded_text front (b.all ++ s.ds) read rest ends

  pads : (4 - length front % 4) % 4 ≡ (4 - q) % 4
  pads =
      let y : length front % 4 ≡ q = omega (arith, each_length base64_value front (b.all ++ s.ds) read, length-append b.all s.ds, b.counts, s.long) in
      ap (λ k. (4 - k) % 4) y

  tested : Padded (left_out a 64) t (n + m) ((4 - q) % 4) ≡ same_octets rest (padding (length front))
  tested =
      ap (λ xs. same_octets xs (replicate ((4 - q) % 4) 61)) (without_blanks a blanks (drop (n + m) t) octets_rest)
      ∙ ap (λ k. same_octets rest (replicate k 61)) (sym pads)

  pub base64_unpadded : Padded (left_out a 64) t (n + m) ((4 - q) % 4) ≡ false → read_base64 (without blank t) ≡ None
  base64_unpadded p = text ∙ ap (λ k. cond k (from_digits 6 (b.all ++ s.ds)) None) (sym tested ∙ p)

  pub base64_octets : Padded (left_out a 64) t (n + m) ((4 - q) % 4) ≡ true → (o₂ : List ℕ) (r : Option ℕ) → Values o₁ o₂ end r (whole_octets 6 8 0 (digits 2 (6 * q) v))
      → Values o₀ o₂ at r (read_base64 (without blank t))
  base64_octets p o₂ r w =
      subst (λ x. Values o₀ o₂ at r x) (sym (text ∙ ap (λ k. cond k (from_digits 6 (b.all ++ s.ds)) None) (sym tested ∙ p)))
      (front_all o₀ at a 64 6 4 t o₁ n end b m q v s o₂ r w)

-- what reading all tokens answers
module _ (t : List ℕ) where
  all : joined_bares read_base64 (tokens t) ≡ joined_text read_base64 (without blank t)
  all = joined_is read_base64 character plain_character bad_character t

  pub base64_fault : read_base64 (without blank t) ≡ None → joined_bares read_base64 (tokens t) ≡ bad_token
  base64_fault e = all ∙ text_fault read_base64 (without blank t) refl e

  module _ (o₀ o₁ : List ℕ) (n m : ℕ) (h : Values o₀ o₁ n (Some m) (read_base64 (without blank t))) where
    pub base64_missing : m ≤ n → joined_bares read_base64 (tokens t) ≡ no_token
    base64_missing l = all ∙ some_base64 (without blank t) (h.1 ∙ ap Some (nothing_stored h.0 n m h.2.count l))

    pub base64_got : n < m → Gets o₀ o₁ n (Ok m) (joined_bares read_base64 (tokens t))
    base64_got l = (h.0, all ∙ text_got read_base64 (without blank t) h.0 refl h.1 (omega (arith, h.2.count)), h.2)
