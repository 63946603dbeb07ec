-- A catalogue that is judged good: a type's text, by its name or as TYPEnnn, reads back, and is short.
use Prim.Native.Nat.{ℕ, suc, ◌+◌, ◌*◌, ◌≤◌, ◌<◌}
use mathlib.Core.Path.{◌≡◌, refl, sym, ap, ◌∙◌}
use mathlib.Core.Bool.{Bool, true, false, not, cond, ◌&&◌, ◌||◌, true≢false}
use mathlib.Core.List.{List, [], ◌∷◌, ◌++◌, map}
use Rattle.std.specs.Prelude.{Option, None, Some}
use native.Mathlib.Omega.{arith}
use lib.ListN.{length, take, drop, length-append}
use lib.Dec.{leb, ltb, eqb}
use borrow.Author.Tests.{eqb-true, leb-true, leb-false, le-leb, lt-leb, le-ltb, lt-ltb, ltb-true}
use Rattle.format.specs.Lists.{◌>>=◌, provided, null, any_of, all_of, twice}
use Rattle.format.specs.Octets.{Below, ascii, in_range, digit, lowered, same_word}
use Rattle.format.specs.Field.{rrtype}
use Rattle.format.specs.Digits.{digits, number, without_zeros, upper_digit}
use Rattle.format.specs.Number.{decimal}
use Rattle.format.specs.Rrtype.{type_text, type_number}
use Rattle.format.specs.Grammar.{is_name}
use Rattle.format.specs.Catalogue.{Entry, TypeName, name_of_entry, is_type_number, good_alone, clashes, if_good, entry_after, Catalogued, bad_entry, known, after_entry, catalogued_from, catalogued, type_text_in, type_number_in, read_type_in}
use Rattle.format.specs.Run.{shown, read_field}
use Rattle.format.specs.Demands.{sound_names, Catalogues}
use Rattle.format.proofs.Lists.{and_left, and_right, or_left, or_right, not_true, implied, bind_some, provided_some, all_snoc, twice_snoc}
use Rattle.format.proofs.Finite.{all_below, at_each}
use Rattle.format.proofs.Digits.{digits_below, digits_length, zeros_below, zeros_length, number_bound}
use Rattle.format.proofs.Wire.{octets_taken}
use Rattle.format.proofs.Field.{Back, FieldLaws, bare_back, width_accepted}
use Rattle.format.proofs.Token.{Plainly}
use Rattle.format.proofs.Number.{Named, named, same_word_lem, integers}
use Rattle.format.proofs.Rrtype.{type_plain, type_length, type_value}

-- a word that is the same as two, one after the other, is each in turn
word_parts : (u v s : List ℕ) → same_word s (u ++ v) ≡ true → (same_word (take (length u) s) u ≡ true) × (same_word (drop (length u) s) v ≡ true)
word_parts [] v s h = (refl, h)
word_parts (x ∷ u) v [] h = absurd (true≢false (sym h))
word_parts (x ∷ u) v (y ∷ s) h =
    let (a, b) = word_parts u v s (and_right (eqb (lowered y) (lowered x)) (same_word s (u ++ v)) h) in
    (rw (and_left (eqb (lowered y) (lowered x)) (same_word s (u ++ v)) h) a, b)

-- only a digit is the same as a digit
digit_small : (d : ℕ) → digit d ≡ true → d < 58
digit_small d h = let l = leb-true d 57 (and_right (leb 48 d) (leb d 57) h) in omega arith

digit_same : (x d : ℕ) → digit d ≡ true → eqb (lowered x) (lowered d) ≡ true → digit x ≡ true
digit_same x d h e = by (in_range 65 90 x) refl
  where
    l : d < 58
    l = digit_small d h

    low : lowered d ≡ d
    low = eqb-true (lowered d) d (implied (digit d) (eqb (lowered d) d) (at_each (λ d. not (digit d) || eqb (lowered d) d) 58 refl d l) h)

    by : (b : Bool) → in_range 65 90 x ≡ b → digit x ≡ true
    by true f =
        let g = leb-true 65 x (and_left (leb 65 x) (leb x 90) f) in
        let q : x + 32 ≡ d = eqb-true (x + 32) d (rw (f, low) at e) in
        absurd (omega (arith, l))
    by false f = let q : x ≡ d = eqb-true x d (rw (f, low) at e) in rw q h

pub digits_same : (t ds : List ℕ) → all_of digit ds ≡ true → same_word t ds ≡ true → all_of digit t ≡ true
digits_same [] ds h e = refl
digits_same (x ∷ t) [] h e = absurd (true≢false (sym e))
digits_same (x ∷ t) (d ∷ ds) h e =
    rw (digit_same x d (and_left (digit d) (all_of digit ds) h) (and_left (eqb (lowered x) (lowered d)) (same_word t ds) e))
    (digits_same t ds (and_right (digit d) (all_of digit ds) h) (and_right (eqb (lowered x) (lowered d)) (same_word t ds) e))

pub some_same : (t ds : List ℕ) → 1 ≤ length ds → same_word t ds ≡ true → null t ≡ false
some_same [] [] h e = absurd (omega arith)
some_same [] (d ∷ ds) h e = absurd (true≢false (sym e))
some_same (x ∷ t) ds h e = refl

all_digits : (ds : List ℕ) → Below 10 ds → all_of digit (map upper_digit ds) ≡ true
all_digits [] b = refl
all_digits (d ∷ ds) b = rw (at_each (λ d. digit (upper_digit d)) 10 refl d b.0) (all_digits ds b.1)

decimal_digits : (n : ℕ) → all_of digit (decimal n) ≡ true
decimal_digits n = all_digits (without_zeros (digits 10 10 n)) (zeros_below 10 (digits 10 10 n) (digits_below 10 10 n (omega arith)))

-- the text of a number of a type is no name of a good entry
type_word_lem : (s : List ℕ) (n : ℕ) → n < 65536 → same_word s (type_text n) ≡ true → is_type_number s ≡ true
type_word_lem s n l h =
    let (a, b) = word_parts (ascii "TYPE") (decimal n) s h in
    let m : 1 ≤ length (decimal n) = decimal_long in
    rw (a, some_same (drop 4 s) (decimal n) m b) (digits_same (drop 4 s) (decimal n) (decimal_digits n) b)
  where
    decimal_long : 1 ≤ length (decimal n)
    decimal_long = rw (map_long upper_digit (without_zeros (digits 10 10 n))) (zeros_length (digits 10 10 n) (rw (digits_length 10 10 n) (omega arith))).0
      where
        map_long : (f : ℕ → ℕ) (xs : List ℕ) → length (map f xs) ≡ length xs
        map_long f [] = refl
        map_long f (x ∷ xs) = ap suc (map_long f xs)

no_type_word : (s : List ℕ) (n : ℕ) → n < 65536 → is_type_number s ≡ false → same_word s (type_text n) ≡ false
no_type_word s n l h = by (same_word s (type_text n)) refl
  where
    by : (b : Bool) → same_word s (type_text n) ≡ b → same_word s (type_text n) ≡ false
    by true e = absurd (true≢false (sym (type_word_lem s n l e) ∙ h))
    by false e = e

-- nor is another entry's name
apart : (s : List ℕ) (ms : List TypeName) (n : ℕ) → n < 65536 → is_type_number s ≡ false → any_of (λ m. same_word s m.spelled) ms ≡ false → same_word s (type_text_in ms n) ≡ false
apart s [] n l h a = no_type_word s n l h
apart s (m ∷ ms) n l h a = by (eqb m.type_no n) (apart s ms n l h (or_right (same_word s m.spelled) (any_of (λ m. same_word s m.spelled) ms) a))
  where
    by : (b : Bool) → same_word s (type_text_in ms n) ≡ false → same_word s (cond b m.spelled (type_text_in ms n)) ≡ false
    by true r = or_left (same_word s m.spelled) (any_of (λ m. same_word s m.spelled) ms) a
    by false r = r

words_apart : (m : TypeName) (ms : List TypeName) → any_of (clashes m) ms ≡ false → any_of (λ x. same_word m.spelled x.spelled) ms ≡ false
words_apart m [] h = refl
words_apart m (x ∷ ms) h =
    let a = or_left (clashes m x) (any_of (clashes m) ms) h in
    rw (or_right (leb x.type_no m.type_no) (same_word m.spelled x.spelled) a) (words_apart m ms (or_right (clashes m x) (any_of (clashes m) ms) h))

-- What a good entry is.
pub record Good (m : TypeName) : Type 0 where
  pub low : m.type_no < 65536
  pub word : Named m.spelled
  pub no_type : is_type_number m.spelled ≡ false

pub good : (m : TypeName) → good_alone m ≡ true → Good m
good m h =
    let a = and_left (leb m.type_no 65535 && is_name m.spelled) (not (is_type_number m.spelled)) h in
    let l = leb-true m.type_no 65535 (and_left (leb m.type_no 65535) (is_name m.spelled) a) in
    record {
      low = omega arith;
      word = named m.spelled (and_right (leb m.type_no 65535) (is_name m.spelled) a);
      no_type = not_true (is_type_number m.spelled) (and_right (leb m.type_no 65535 && is_name m.spelled) (not (is_type_number m.spelled)) h);
    }

-- What the text of a type is, with the names ms.
pub record TypeText (ms : List TypeName) (n : ℕ) : Type 0 where
  pub plain : Plainly (type_text_in ms n)
  pub some_octet : 1 ≤ length (type_text_in ms n)
  pub short : length (type_text_in ms n) ≤ 63
  pub reads : type_number_in ms (type_text_in ms n) ≡ Some n

text_of_type : (ms : List TypeName) → all_of good_alone ms ≡ true → twice clashes ms ≡ false → (n : ℕ) → n < 65536 → TypeText ms n
text_of_type [] h d n l = let (a, b) = type_length n l in record { plain = type_plain n; some_octet = a; short = omega arith; reads = type_value n l }
text_of_type (m ∷ ms) h d n l =
    by (eqb m.type_no n) refl (text_of_type ms (and_right (good_alone m) (all_of good_alone ms) h) (or_right (any_of (clashes m) ms) (twice clashes ms) d) n l)
  where
    g : Good m
    g = good m (and_left (good_alone m) (all_of good_alone ms) h)

    by : (b : Bool) → eqb m.type_no n ≡ b → TypeText ms n → TypeText (m ∷ ms) n
    by true e r = record {
      plain = rw e g.word.plain;
      some_octet = rw e g.word.some_octet;
      short = rw e g.word.short;
      reads = rw (e, same_word_lem m.spelled, eqb-true m.type_no n e);
    }
    by false e r = record {
      plain = rw e r.plain;
      some_octet = rw e r.some_octet;
      short = rw e r.short;
      reads = rw (e, apart m.spelled ms n l g.no_type (words_apart m ms (or_left (any_of (clashes m) ms) (twice clashes ms) d))) r.reads;
    }

module _ (ms : List TypeName) (h : sound_names ms ≡ true) where
  all_good : all_of good_alone ms ≡ true
  all_good = and_right (leb (length ms) 512) (all_of good_alone ms) (and_left (leb (length ms) 512 && all_of good_alone ms) (not (twice clashes ms)) h)

  pub none_twice : twice clashes ms ≡ false
  none_twice = not_true (twice clashes ms) (and_right (leb (length ms) 512 && all_of good_alone ms) (not (twice clashes ms)) h)

  pub type_text_lem : (n : ℕ) → n < 65536 → TypeText ms n
  type_text_lem n l = text_of_type ms all_good none_twice n l

  pub few_names : length ms ≤ 512
  few_names = leb-true (length ms) 512 (and_left (leb (length ms) 512) (all_of good_alone ms) (and_left (leb (length ms) 512 && all_of good_alone ms) (not (twice clashes ms)) h))

  pub names_good : all_of good_alone ms ≡ true
  names_good = all_good

-- Types that rise, from lo on.
abbrev pub Rising : ℕ → List ℕ → Type 0
Rising lo [] = Unit {0}
Rising lo (t ∷ ts) = (lo ≤ t) × Rising (suc t) ts

pub rising_from : (lo hi : ℕ) (ts : List ℕ) → hi ≤ lo → Rising lo ts → Rising hi ts
rising_from lo hi [] l h = tt
rising_from lo hi (t ∷ ts) l h = (omega (arith, h.0), h.1)

-- the octets of their texts, and a space for each
abbrev pub weight : (ℕ → List ℕ) → List ℕ → ℕ
weight text [] = 0
weight text (t ∷ ts) = suc (length (text t)) + weight text ts

-- past its number a name plays no part
past_name : (m : TypeName) (ms : List TypeName) (ts : List ℕ) → Rising (suc m.type_no) ts → weight (type_text_in (m ∷ ms)) ts ≡ weight (type_text_in ms) ts
past_name m ms [] h = refl
past_name m ms (t ∷ ts) h = rw (ne m.type_no t h.0, past_name m ms ts (rising_from (suc t) (suc m.type_no) ts (omega (arith, h.0)) h.1))
  where
    ne : (a b : ℕ) → suc a ≤ b → eqb a b ≡ false
    ne a b l = by (eqb a b) refl
      where
        by : (c : Bool) → eqb a b ≡ c → eqb a b ≡ false
        by true e = let q = eqb-true a b e in absurd (omega arith)
        by false e = e

-- so each name adds its octets once at most
one_name : (m : TypeName) (ms : List TypeName) (lo : ℕ) (ts : List ℕ) → Rising lo ts → weight (type_text_in (m ∷ ms)) ts ≤ length m.spelled + weight (type_text_in ms) ts
one_name m ms lo [] h = omega arith
one_name m ms lo (t ∷ ts) h = by (eqb m.type_no t) refl (one_name m ms (suc t) ts h.1)
  where
    by : (b : Bool) → eqb m.type_no t ≡ b → weight (type_text_in (m ∷ ms)) ts ≤ length m.spelled + weight (type_text_in ms) ts
        → suc (length (cond b m.spelled (type_text_in ms t))) + weight (type_text_in (m ∷ ms)) ts ≤ length m.spelled + (suc (length (type_text_in ms t)) + weight (type_text_in ms) ts)
    by true e ih = let q = eqb-true m.type_no t e in omega (arith, past_name m ms ts (rw (← q) at h.1))
    by false e ih = omega arith

plain_weight : (ts : List ℕ) → Below 65536 ts → weight type_text ts ≤ 10 * length ts
plain_weight [] b = omega arith
plain_weight (t ∷ ts) b = omega (arith, (type_length t b.0).1, plain_weight ts b.1)

pub names_weight : (ms : List TypeName) → all_of good_alone ms ≡ true → (ts : List ℕ) → Rising 0 ts → Below 65536 ts → weight (type_text_in ms) ts ≤ 63 * length ms + 10 * length ts
names_weight [] h ts r b = omega (arith, plain_weight ts b)
names_weight (m ∷ ms) h ts r b =
    omega (arith, one_name m ms 0 ts r, (good m (and_left (good_alone m) (all_of good_alone ms) h)).word.short, names_weight ms (and_right (good_alone m) (all_of good_alone ms) h) ts r b)

-- what judging guarantees
from_sound : (earlier : List TypeName) (names : List ℕ) (es : List Entry) (c : List TypeName) → sound_names earlier ≡ true → catalogued_from earlier names es ≡ known c
    → (sound_names c ≡ true) × (length c ≡ length earlier + length es)
unfolding catalogued_from
from_sound earlier names [] c h e = let w : earlier ≡ c = cc in (rw (← w) h, rw (← w) (omega arith))
from_sound earlier names (e ∷ es) c h q = by (ltb (length earlier) 512) refl q (λ m. from_sound (earlier ++ m ∷ []) names es c)
  where
    Later : Type 0
    Later = (m : TypeName) → sound_names (earlier ++ m ∷ []) ≡ true → catalogued_from (earlier ++ m ∷ []) names es ≡ known c → (sound_names c ≡ true) × (length c ≡ length (earlier ++ m ∷ []) + length es)

    a : all_of good_alone earlier ≡ true
    a = all_good earlier h

    t : twice clashes earlier ≡ false
    t = none_twice earlier h

    on : ltb (length earlier) 512 ≡ true → (o : Option TypeName) → entry_after earlier names e ≡ o → after_entry o (suc (length earlier)) (λ n. catalogued_from (earlier ++ n ∷ []) names es) ≡ known c → Later
        → (sound_names c ≡ true) × (length c ≡ length earlier + suc (length es))
    on l None f q ih = let z : ◌≡◌ {A = ℕ} 0 1 = cc in absurd (omega arith)
    on l (Some n) f q ih =
        let (s, i, j) = bind_some (name_of_entry names e) (λ t. if_good earlier (record { type_no = e.type_no; spelled = t })) n f in
        let m : TypeName = record { type_no = e.type_no; spelled = s } in
        let (v, w) = provided_some (good_alone m && not (any_of (λ x. clashes x m) earlier)) m n j in
        let g = and_left (good_alone m) (not (any_of (λ x. clashes x m) earlier)) v in
        let k = not_true (any_of (λ x. clashes x m) earlier) (and_right (good_alone m) (not (any_of (λ x. clashes x m) earlier)) v) in
        let lt = ltb-true (length earlier) 512 l in
        let len : length (earlier ++ m ∷ []) ≡ suc (length earlier) = length-append earlier (m ∷ []) ∙ omega arith in
        let sound : sound_names (earlier ++ m ∷ []) ≡ true = rw (len, le-leb (suc (length earlier)) 512 (omega arith), all_snoc good_alone earlier m a g, twice_snoc clashes earlier m t k) in
        let (x, y) = ih m sound (rw (← w) at q) in
        (x, omega (arith, len))

    by : (b : Bool) → ltb (length earlier) 512 ≡ b → after_entry (cond b (entry_after earlier names e) None) (suc (length earlier)) (λ n. catalogued_from (earlier ++ n ∷ []) names es) ≡ known c → Later
        → (sound_names c ≡ true) × (length c ≡ length earlier + suc (length es))
    by true l q ih = on l (entry_after earlier names e) refl q ih
    by false l q ih = let z : ◌≡◌ {A = ℕ} 0 1 = cc in absurd (omega arith)

pub catalogues : Catalogues
catalogues names es c e = let (a, b) = from_sound [] names es c refl e in (a, omega arith)

-- R
two_octets : (c : List TypeName) (t p : List ℕ) → read_type_in c t ≡ Some p → length p ≡ 2
two_octets c t p e = let (v, a, b) = bind_some (type_number_in c t) (λ n. Some (digits 256 2 n)) p e in let q : digits 256 2 v ≡ p = cc in rw (← q) (digits_length 256 2 v)

pub rrtype_laws : (c : List TypeName) → sound_names c ≡ true → FieldLaws c rrtype
unfolding Back shown read_field
rrtype_laws c g = record {
  back = λ o p b e r q t.
      let n : length p ≡ 2 = octets_taken 2 p (omega arith) e in
      let v : number 256 p < 65536 = rw n at (number_bound 256 p b) in
      let x = type_text_lem c g (number 256 p) v in
      bare_back (read_type_in c) (type_text_in c (number 256 p)) p r x.some_octet x.plain (rw x.reads (ap Some ((integers 2).1 p b n))) q;
  bound = λ p b e.
      let n : length p ≡ 2 = octets_taken 2 p (omega arith) e in
      let v : number 256 p < 65536 = rw n at (number_bound 256 p b) in
      omega (arith, (type_text_lem c g (number 256 p) v).short);
  accepted = λ o n ts us p e. width_accepted 2 (omega arith) (read_type_in c) (two_octets c) ts us p e;
}
