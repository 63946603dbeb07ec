-- Laws of a text of types that is written in pieces, and of the types of an octet's bits.
use Prim.Native.Nat.{ℕ, zero, suc, ◌+◌, ◌-◌, ◌*◌, ◌/◌, ◌%◌, ◌≤◌, ◌<◌}
use mathlib.Core.Path.{◌≡◌, refl, sym, ap, subst, ◌∙◌}
use mathlib.Core.Bool.{Bool, true, false, not, cond, ◌&&◌}
use mathlib.Core.List.{List, [], ◌∷◌, ◌++◌, append_assoc, append-nil}
use native.Mathlib.Omega.{arith}
use native.Mathlib.Numerals.{add-one}
use lib.ListN.{length, length-append}
use lib.Dec.{ltb, leb, eqb}
use borrow.Author.Tests.{lt-ltb}
use Rattle.format.specs.Lists.{all_of, twice}
use Rattle.format.specs.Octets.{ascii, same_octets}
use Rattle.format.specs.Digits.{digits}
use Rattle.format.specs.Grammar.{is_name}
use Rattle.format.specs.Catalogue.{TypeName, is_type_number, good_alone, clashes, type_text_in}
use Rattle.format.specs.Demands.{sound_names}
use Rattle.format.specs.Bitmap.{set_bits}
use Rattle.format.proofs.Lists.{octets_same, and_left, and_right}
use Rattle.format.proofs.Finite.{at_each}
use Rattle.format.proofs.Digits.{digits_length}
use Rattle.format.proofs.Number.{decimal_10, Named, named}
use Rattle.format.proofs.Bitmap.{set_short}
use Rattle.buffer.specs.Writing.{Wrote}
use Rattle.buffer.proofs.Laws.{Left, left_all, left_piece, left_none}
use Rattle.buffer.proofs.Parted.{first_later}
use Rattle.catalogue.specs.Known.{names_in}
use Rattle.catalogue.specs.declared.Catalogue.{Catalogue}
use Rattle.catalogue.proofs.Laws.{listed_sound}
use Rattle.bitmap.specs.Types.{types_text}

-- Texts of types that have 1 to 63 octets each, as all have with the names of a catalogue that is not refused.
pub record Short (text : ℕ → List ℕ) : Type 0 where
  pub some_octet : (v : ℕ) → 1 ≤ length (text v)
  pub at_most : (v : ℕ) → length (text v) ≤ 63

text_sized : (c : List TypeName) → all_of good_alone c ≡ true → (v : ℕ) → (1 ≤ length (type_text_in c v)) × (length (type_text_in c v) ≤ 63)
text_sized [] h v = (omega arith, omega (arith, decimal_10 v))
text_sized (m ∷ ms) h v = by (eqb m.type_no v) (text_sized ms (and_right (good_alone m) (all_of good_alone ms) h) v)
  where
    word : Named m.spelled
    word =
        let a = and_left (leb m.type_no 65535 && is_name m.spelled) (not (is_type_number m.spelled)) (and_left (good_alone m) (all_of good_alone ms) h) in
        named m.spelled (and_right (leb m.type_no 65535) (is_name m.spelled) a)

    by : (b : Bool) → (1 ≤ length (type_text_in ms v)) × (length (type_text_in ms v) ≤ 63)
        → (1 ≤ length (cond b m.spelled (type_text_in ms v))) × (length (cond b m.spelled (type_text_in ms v)) ≤ 63)
    by true r = (word.some_octet, word.short)
    by false r = r

all_short : (c : List TypeName) → sound_names c ≡ true → Short (type_text_in c)
all_short c h =
    let g = and_right (leb (length c) 512) (all_of good_alone c) (and_left (leb (length c) 512 && all_of good_alone c) (not (twice clashes c)) h) in
    record { some_octet = λ v. (text_sized c g v).0; at_most = λ v. (text_sized c g v).1 }

pub known_short : (c : Catalogue) → Short (type_text_in (names_in c))
known_short c = all_short (names_in c) (listed_sound c.names.now c.types.now c.listed)

module _ (text : ℕ → List ℕ) where
  -- no types have an empty text, and one type has a text
  pub no_types : (b : Bool) → types_text text b [] ≡ []
  no_types true = refl
  no_types false = refl

  -- a loop that has no types left has written the whole text
  pub types_done : {o₀ whole o ts : List ℕ} {start m : ℕ} (b : Bool) → Left o₀ start whole o m (types_text text b ts) → ts ≡ [] → Wrote o₀ o start m whole
  types_done b l e = left_none l (ap (types_text text b) e ∙ no_types b)

  first_text : (t : ℕ) (ts : List ℕ) → types_text text false (t ∷ ts) ≡ text t ++ types_text text true ts
  first_text t ts = first_later (ascii " ") text t ts

  pub later_one : (t : ℕ) → (32 ∷ []) ++ text t ≡ types_text text true (t ∷ [])
  later_one t = sym (append-nil (32 ∷ text t))

  -- types and more types
  later_more : (ts us : List ℕ) → types_text text true (ts ++ us) ≡ types_text text true ts ++ types_text text true us
  later_more [] us = refl
  later_more (t ∷ ts) us = rw (later_more ts us) (sym (append_assoc (ascii " " ++ text t) (types_text text true ts) (types_text text true us)))

  types_more : (b : Bool) (t : ℕ) (ts us : List ℕ) → types_text text b (t ∷ ts ++ us) ≡ types_text text b (t ∷ ts) ++ types_text text true us
  types_more true t ts us = later_more (t ∷ ts) us
  types_more false t ts us =
      first_text t (ts ++ us) ∙ ap (λ (l : List ℕ). text t ++ l) (later_more ts us) ∙ sym (append_assoc (text t) (types_text text true ts) (types_text text true us))
      ∙ ap (λ (l : List ℕ). l ++ types_text text true us) (sym (first_text t ts))

module _ (text : ℕ → List ℕ) (short : Short text) where
  some_types : (b : Bool) (t : ℕ) (ts : List ℕ) → 1 ≤ length (types_text text b (t ∷ ts))
  some_types true t ts = omega arith
  some_types false t ts = rw (first_text text t ts) (omega (arith, short.some_octet t, length-append (text t) (types_text text true ts)))

  -- the same from m on, in a text that begins at n
  text_on : (n m r : ℕ) (ts us : List ℕ) → n ≤ m → r ≡ m + length (types_text text (ltb n m) ts)
      → types_text text (ltb n m) (ts ++ us) ≡ types_text text (ltb n m) ts ++ types_text text (ltb n r) us
  text_on n m r [] us h q =
      let e : r ≡ m = omega (arith, ap length (no_types text (ltb n m))) in
      rw (no_types text (ltb n m), e)
  text_on n m r (t ∷ ts) us h q = rw (lt-ltb n r (omega (arith, some_types (ltb n m) t ts))) (types_more text (ltb n m) t ts us)

  -- some of the types that are left are written
  pub types_left_lem : {o₀ whole o ys : List ℕ} {start m : ℕ} (n : ℕ) (o' : List ℕ) (r : ℕ) (ts us : List ℕ) → Left o₀ start whole o m (types_text text (ltb n m) ys)
      → ys ≡ ts ++ us → n ≤ m → Wrote o o' m r (types_text text (ltb n m) ts) → Left o₀ start whole o' r (types_text text (ltb n r) us)
  types_left_lem {m = m} n o' r ts us l e h w =
      left_piece o' r (types_text text (ltb n m) ts) (types_text text (ltb n r) us) l (ap (types_text text (ltb n m)) e ∙ text_on n m r ts us h w.count) w

  -- at most 64 octets for each type
  later_length : (ts : List ℕ) → length (types_text text true ts) ≤ 64 * length ts
  later_length [] = omega arith
  later_length (t ∷ ts) = omega (arith, later_length ts, short.at_most t, length-append (text t) (types_text text true ts))

  pub types_length : (b : Bool) (ts : List ℕ) → length (types_text text b ts) ≤ 64 * length ts
  types_length true ts = later_length ts
  types_length false [] = omega arith
  types_length false (t ∷ ts) = rw (first_text text t ts) (omega (arith, later_length ts, short.at_most t, length-append (text t) (types_text text true ts)))

  pub octet_length : (b : Bool) (v x : ℕ) → length (types_text text b (set_bits v (digits 2 8 x))) ≤ 512
  octet_length b v x = omega (arith, types_length b (set_bits v (digits 2 8 x)), set_short v (digits 2 8 x), digits_length 2 8 x)

-- one bit, and those after it
pub bit_set : (v b : ℕ) → (b ≡ 0 → ⊥) → set_bits v (b ∷ []) ≡ v ∷ []
bit_set v zero h = absurd (h refl)
bit_set v (suc b) h = refl

bit_first : (v b : ℕ) (bs : List ℕ) → set_bits v (b ∷ bs) ≡ set_bits v (b ∷ []) ++ set_bits (v + 1) bs
bit_first v zero bs = rw (add-one v)
bit_first v (suc b) bs = rw (add-one v)

-- the w highest bits of an octet
abbrev pub high_bits : ℕ → ℕ → List ℕ
high_bits zero y = []
high_bits (suc w) y = y / 128 ∷ high_bits w (y % 128 * 2)

-- no bit is set after the w highest
abbrev pub Within : ℕ → ℕ → Type 0
Within zero y = y ≡ 0
Within (suc w) y = Within w (y % 128 * 2)

octet_bits : (x : ℕ) → x < 256 → digits 2 8 x ≡ high_bits 8 x
octet_bits x h = octets_same (digits 2 8 x) (high_bits 8 x) (at_each (λ x. same_octets (digits 2 8 x) (high_bits 8 x)) 256 refl x h)

-- The types left from t on in an octet whose first type is v; y is what is left of the octet, shifted to its highest bits.
abbrev pub types_left : ℕ → ℕ → ℕ → List ℕ
types_left v t y = set_bits t (high_bits (v + 8 - t) y)

module _ (v x : ℕ) where
  eight : v + 8 - v ≡ 8
  eight = omega arith

  pub octet_within : Within (v + 8 - v) x
  octet_within = rw eight (omega arith)

  pub octet_left : (text : ℕ → List ℕ) (o : List ℕ) (n : ℕ) (b : Bool) → x < 256 → Left o n (types_text text b (set_bits v (digits 2 8 x))) o n (types_text text b (types_left v v x))
  octet_left text o n b h =
      subst (λ (ts : List ℕ). Left o n (types_text text b (set_bits v (digits 2 8 x))) o n (types_text text b ts))
      (ap (set_bits v) (octet_bits x h) ∙ ap (λ (w : ℕ). set_bits v (high_bits w x)) (sym eight)) (left_all o n _)

-- the next bit
module _ (v t y : ℕ) (h : Within (v + 8 - t) y) where
  pub bit_there : 0 < y → t < v + 8
  bit_there k = by (v + 8 - t) refl h
    where
      by : (w : ℕ) → v + 8 - t ≡ w → Within w y → t < v + 8
      by zero e r = absurd (omega arith)
      by (suc w) e r = omega arith

  bit_left : t < v + 8 → v + 8 - t ≡ suc (v + 8 - (t + 1))
  bit_left k = omega arith

  pub bit_within : 0 < y → Within (v + 8 - (t + 1)) (y % 128 * 2)
  bit_within k = subst (λ (w : ℕ). Within w y) (bit_left (bit_there k)) h

  pub bit_next : 0 < y → types_left v t y ≡ set_bits t (y / 128 ∷ []) ++ types_left v (t + 1) (y % 128 * 2)
  bit_next k = rw (bit_left (bit_there k)) (bit_first t (y / 128) (high_bits (v + 8 - (t + 1)) (y % 128 * 2)))

no_bits : (w t : ℕ) → set_bits t (high_bits w 0) ≡ []
no_bits zero t = refl
no_bits (suc w) t = no_bits w (suc t)

pub bits_done : (v t y : ℕ) → y ≤ 0 → types_left v t y ≡ []
bits_done v t y h = let q : y ≡ 0 = omega arith in rw q (no_bits (v + 8 - t) t)
