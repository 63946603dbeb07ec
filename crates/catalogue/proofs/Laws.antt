-- Laws of a catalogue that is not refused: what is known of its entries, and the texts and the numbers of types that it gives.
use Prim.Native.Nat.{ℕ, zero, suc, ◌+◌, ◌-◌, ◌≤◌, ◌<◌}
use mathlib.Core.Path.{◌≡◌, refl, sym, ap, ◌∙◌}
use mathlib.Core.Bool.{Bool, true, false, not, cond, ◌&&◌, true≢false}
use mathlib.Core.List.{List, [], ◌∷◌, ◌++◌}
use Rattle.std.specs.Prelude.{Option, None, Some}
use native.Mathlib.Omega.{arith}
use lib.ListN.{length, take, drop, get_or, length-drop}
use lib.Seq.{length-take-le}
use lib.Dec.{leb, ltb, eqb}
use borrow.Author.Tests.{eqb-true, leb-true, leb-false, le-ltb}
use Rattle.format.specs.Lists.{◌>>=◌, provided, or_else, cons_both, each_of, any_of, all_of, twice}
use Rattle.format.specs.Octets.{ascii, in_range, digit, letter, lowered, same_word}
use Rattle.format.specs.Digits.{number, digit_value}
use Rattle.format.specs.Number.{decimal_of, below}
use Rattle.format.specs.Rrtype.{type_text, type_number}
use Rattle.format.specs.Catalogue.{TypeName, name_of_entry, is_type_number, good_alone, clashes, if_good, entry_after, known, after_entry, catalogued_from, type_text_in, type_number_in}
use Rattle.format.specs.Demands.{sound_names}
use Rattle.format.proofs.Lists.{and_left, and_right, or_left, or_right, bind_some, provided_some}
use Rattle.format.proofs.Catalogue.{digits_same, some_same, good, type_text_lem, none_twice, few_names, names_good, catalogues}
use Rattle.catalogue.specs.Entries.{entry_at, entries_at, spelled_at, names_of, Listed, Rising, Within, name_number}

-- the type number of the entry at a place
abbrev pub type_at : List ℕ → ℕ → ℕ
type_at ws k = (entry_at (get_or ws k 0)).type_no

-- what judging says of the names, and how many they are
pub listed_sound : (names ws : List ℕ) → Listed names ws → sound_names (names_of names ws) ≡ true
listed_sound names ws h = (catalogues names (entries_at ws) (names_of names ws) h).0

names_length : (names ws : List ℕ) → length (names_of names ws) ≡ length ws
names_length names [] = refl
names_length names (w ∷ ws) = ap suc (names_length names ws)

pub rows : (names ws : List ℕ) → Listed names ws → length ws ≤ 512
rows names ws h = omega (arith, names_length names ws, few_names (names_of names ws) (listed_sound names ws h))

-- a good entry's name lies in the text, and is short
good_within : (earlier : List TypeName) (names : List ℕ) (w : ℕ) (n : TypeName) → entry_after earlier names (entry_at w) ≡ Some n → Within names w
good_within earlier names w n f =
    let (s, i, j) = bind_some (name_of_entry names (entry_at w)) (λ t. if_good earlier (record { type_no = (entry_at w).type_no; spelled = t })) n f in
    let (a, b) = provided_some (leb ((entry_at w).start + (entry_at w).size) (length names)) (spelled_at names w) s i in
    let m : TypeName = record { type_no = (entry_at w).type_no; spelled = s } in
    let (v, x) = provided_some (good_alone m && not (any_of (λ x. clashes x m) earlier)) m n j in
    let g = good m (and_left (good_alone m) (not (any_of (λ x. clashes x m) earlier)) v) in
    let l = leb-true ((entry_at w).start + (entry_at w).size) (length names) a in
    let k : length (spelled_at names w) ≡ (entry_at w).size = length-take-le (entry_at w).size (drop (entry_at w).start names) (omega (arith, length-drop (entry_at w).start names, l)) in
    record { in_text = l; short = omega (arith, k, ap length b, g.word.short); low = g.low }

from_within : (earlier : List TypeName) (names ws : List ℕ) (c : List TypeName) → catalogued_from earlier names (entries_at ws) ≡ known c → (k : ℕ) → k < length ws → Within names (get_or ws k 0)
unfolding catalogued_from
from_within earlier names [] c h k l = absurd (omega arith)
from_within earlier names (w ∷ ws) c h k l = by (ltb (length earlier) 512) h (λ m. from_within (earlier ++ m ∷ []) names ws c) k l
  where
    Later : Type 0
    Later = (m : TypeName) → catalogued_from (earlier ++ m ∷ []) names (entries_at ws) ≡ known c → (k : ℕ) → k < length ws → Within names (get_or ws k 0)

    on : (o : Option TypeName) → entry_after earlier names (entry_at w) ≡ o → after_entry o (suc (length earlier)) (λ n. catalogued_from (earlier ++ n ∷ []) names (entries_at ws)) ≡ known c → Later
        → (k : ℕ) → k < suc (length ws) → Within names (get_or (w ∷ ws) k 0)
    on None f q ih k l = let z : ◌≡◌ {A = ℕ} 0 1 = cc in absurd (omega arith)
    on (Some n) f q ih zero l = good_within earlier names w n f
    on (Some n) f q ih (suc k) l = ih n q k (omega arith)

    by : (b : Bool) → after_entry (cond b (entry_after earlier names (entry_at w)) None) (suc (length earlier)) (λ n. catalogued_from (earlier ++ n ∷ []) names (entries_at ws)) ≡ known c → Later
        → (k : ℕ) → k < suc (length ws) → Within names (get_or (w ∷ ws) k 0)
    by true q ih k l = on (entry_after earlier names (entry_at w)) refl q ih k l
    by false q ih k l = let z : ◌≡◌ {A = ℕ} 0 1 = cc in absurd (omega arith)

pub listed_within : (names ws : List ℕ) → Listed names ws → (k : ℕ) → k < length ws → Within names (get_or ws k 0)
listed_within names ws h k l = from_within [] names ws (names_of names ws) h k l

-- entries that do not clash rise
above : (m : TypeName) (names ws : List ℕ) → any_of (clashes m) (names_of names ws) ≡ false → (j : ℕ) → j < length ws → m.type_no < (entry_at (get_or ws j 0)).type_no
above m names [] h j l = absurd (omega arith)
above m names (w ∷ ws) h zero l =
    let n : TypeName = record { type_no = (entry_at w).type_no; spelled = spelled_at names w } in
    leb-false n.type_no m.type_no (or_left (leb n.type_no m.type_no) (same_word m.spelled n.spelled) (or_left (clashes m n) (any_of (clashes m) (names_of names ws)) h))
above m names (w ∷ ws) h (suc j) l =
    let n : TypeName = record { type_no = (entry_at w).type_no; spelled = spelled_at names w } in
    above m names ws (or_right (clashes m n) (any_of (clashes m) (names_of names ws)) h) j (omega arith)

from_rising : (names ws : List ℕ) → twice clashes (names_of names ws) ≡ false → Rising ws
from_rising names [] h i j l k = absurd (omega arith)
from_rising names (w ∷ ws) h i zero l k = absurd (omega arith)
from_rising names (w ∷ ws) h zero (suc j) l k =
    let m : TypeName = record { type_no = (entry_at w).type_no; spelled = spelled_at names w } in
    above m names ws (or_left (any_of (clashes m) (names_of names ws)) (twice clashes (names_of names ws)) h) j (omega arith)
from_rising names (w ∷ ws) h (suc i) (suc j) l k =
    let m : TypeName = record { type_no = (entry_at w).type_no; spelled = spelled_at names w } in
    from_rising names ws (or_right (any_of (clashes m) (names_of names ws)) (twice clashes (names_of names ws)) h) i j (omega arith) (omega arith)

pub listed_rising : (names ws : List ℕ) → Listed names ws → Rising ws
listed_rising names ws h = from_rising names ws (none_twice (names_of names ws) (listed_sound names ws h))

-- the text of a type: the name of the first entry with its number, or TYPEnnn
pub text_found : (names ws : List ℕ) (v k : ℕ) → k < length ws → eqb (type_at ws k) v ≡ true → ((i : ℕ) → i < k → eqb (type_at ws i) v ≡ false) → type_text_in (names_of names ws) v ≡ spelled_at names (get_or ws k 0)
text_found names [] v k l e f = absurd (omega arith)
text_found names (w ∷ ws) v zero l e f = rw e
text_found names (w ∷ ws) v (suc k) l e f = rw (f 0 (omega arith)) (text_found names ws v k (omega arith) e (λ i m. f (suc i) (omega (arith, m))))

pub text_none : (names ws : List ℕ) (v : ℕ) → ((i : ℕ) → i < length ws → eqb (type_at ws i) v ≡ false) → type_text_in (names_of names ws) v ≡ type_text v
text_none names [] v f = refl
text_none names (w ∷ ws) v f = rw (f 0 (omega arith)) (text_none names ws v (λ i m. f (suc i) (omega (arith, m))))

pub text_short : (c : List TypeName) → sound_names c ≡ true → (v : ℕ) → v < 65536 → length (type_text_in c v) ≤ 63
text_short c h v l = (type_text_lem c h v l).short

-- the number of a type: that of the first entry with its name, or that of TYPEnnn
pub number_else : (c : List TypeName) (t : List ℕ) → type_number_in c t ≡ or_else (name_number c t) (type_number t)
number_else [] t = refl
number_else (m ∷ ms) t = by (same_word m.spelled t) (number_else ms t)
  where
    by : (b : Bool) → type_number_in ms t ≡ or_else (name_number ms t) (type_number t)
        → cond b (Some m.type_no) (type_number_in ms t) ≡ or_else (cond b (Some m.type_no) (name_number ms t)) (type_number t)
    by true ih = refl
    by false ih = ih

-- words that are the same: their fronts, their rests, and a third
word_cut : (n : ℕ) (s t : List ℕ) → same_word s t ≡ true → (same_word (take n s) (take n t) ≡ true) × (same_word (drop n s) (drop n t) ≡ true)
word_cut zero s t h = (refl, h)
word_cut (suc n) [] [] h = (refl, refl)
word_cut (suc n) [] (y ∷ t) h = absurd (true≢false (sym h))
word_cut (suc n) (x ∷ s) [] h = absurd (true≢false (sym h))
word_cut (suc n) (x ∷ s) (y ∷ t) h =
    let (a, b) = word_cut n s t (and_right (eqb (lowered x) (lowered y)) (same_word s t) h) in
    (rw (and_left (eqb (lowered x) (lowered y)) (same_word s t) h) a, b)

word_third : (s t u : List ℕ) → same_word s t ≡ true → same_word t u ≡ true → same_word s u ≡ true
word_third [] [] u h k = k
word_third [] (y ∷ t) u h k = absurd (true≢false (sym h))
word_third (x ∷ s) [] u h k = absurd (true≢false (sym h))
word_third (x ∷ s) (y ∷ t) [] h k = absurd (true≢false (sym k))
word_third (x ∷ s) (y ∷ t) (z ∷ u) h k =
    let e : lowered x ≡ lowered y = eqb-true (lowered x) (lowered y) (and_left (eqb (lowered x) (lowered y)) (same_word s t) h) in
    rw (e, and_left (eqb (lowered y) (lowered z)) (same_word t u) k)
    (word_third s t u (and_right (eqb (lowered x) (lowered y)) (same_word s t) h) (and_right (eqb (lowered y) (lowered z)) (same_word t u) k))

-- what reads as a decimal number is one digit or more
digit_value_lem : (x d : ℕ) → digit_value 10 x ≡ Some d → digit x ≡ true
digit_value_lem x d e = by (digit x) (letter x) e
  where
    by : (b c : Bool) → cond b (provided (ltb (x - 48) 10) (x - 48)) (cond c (provided (ltb (lowered x - 97 + 10) 10) (lowered x - 97 + 10)) None) ≡ Some d → b ≡ true
    by true c e = refl
    by false true e = let q : None ≡ Some d = rw (le-ltb (lowered x - 97 + 10) 10 (omega arith)) at e in cc
    by false false e = cc

each_digit : (t ds : List ℕ) → each_of (digit_value 10) t ≡ Some ds → all_of digit t ≡ true
each_digit [] ds e = refl
each_digit (x ∷ t) ds e = by (digit_value 10 x) refl (each_of (digit_value 10) t) refl e (each_digit t)
  where
    by : (o : Option ℕ) → digit_value 10 x ≡ o → (p : Option (List ℕ)) → each_of (digit_value 10) t ≡ p → cons_both o p ≡ Some ds
        → ((zs : List ℕ) → each_of (digit_value 10) t ≡ Some zs → all_of digit t ≡ true) → digit x && all_of digit t ≡ true
    by None a p b e ih = cc
    by (Some y) a None b e ih = cc
    by (Some y) a (Some zs) b e ih = rw (digit_value_lem x y a, ih zs b)

decimal_digits : (t : List ℕ) (v : ℕ) → decimal_of t ≡ Some v → (1 ≤ length t) × (all_of digit t ≡ true)
decimal_digits t v e = by (in_range 1 10 (length t)) refl e
  where
    by : (b : Bool) → in_range 1 10 (length t) ≡ b → cond b (each_of (digit_value 10) t >>= λ ds. Some (number 10 ds)) None ≡ Some v → (1 ≤ length t) × (all_of digit t ≡ true)
    by true q e =
        let (ds, a, b) = bind_some (each_of (digit_value 10) t) (λ ds. Some (number 10 ds)) v e in
        (leb-true 1 (length t) (and_left (leb 1 (length t)) (leb (length t) 10) q), each_digit t ds a)
    by false q e = let z : ◌≡◌ {A = ℕ} 0 1 = cc in absurd (omega arith)

-- what reads as TYPEnnn is no good entry's name
type_number_lem : (s t : List ℕ) (v : ℕ) → type_number t ≡ Some v → same_word s t ≡ true → is_type_number s ≡ true
type_number_lem s t v e h = by (same_word (take 4 t) (ascii "TYPE")) refl e
  where
    by : (b : Bool) → same_word (take 4 t) (ascii "TYPE") ≡ b → cond b (below 65536 (decimal_of (drop 4 t))) None ≡ Some v → is_type_number s ≡ true
    by true q e =
        let (n, a, b) = bind_some (decimal_of (drop 4 t)) (λ n. provided (ltb n 65536) n) v e in
        let (l, d) = decimal_digits (drop 4 t) n a in
        let (f, r) = word_cut 4 s t h in
        rw (word_third (take 4 s) (take 4 t) (ascii "TYPE") f q, some_same (drop 4 s) (drop 4 t) l r) (digits_same (drop 4 s) (drop 4 t) d r)
    by false q e = cc

from_first : (c : List TypeName) → all_of good_alone c ≡ true → (t : List ℕ) (v : ℕ) → type_number t ≡ Some v → type_number_in c t ≡ Some v
from_first [] g t v e = e
from_first (m ∷ ms) g t v e = by (same_word m.spelled t) refl (from_first ms (and_right (good_alone m) (all_of good_alone ms) g) t v e)
  where
    by : (b : Bool) → same_word m.spelled t ≡ b → type_number_in ms t ≡ Some v → cond b (Some m.type_no) (type_number_in ms t) ≡ Some v
    by true q ih = absurd (true≢false (sym (type_number_lem m.spelled t v e q) ∙ (good m (and_left (good_alone m) (all_of good_alone ms) g)).no_type))
    by false q ih = ih

pub number_first : (c : List TypeName) → sound_names c ≡ true → (t : List ℕ) (v : ℕ) → type_number t ≡ Some v → type_number_in c t ≡ Some v
number_first c h t v e = from_first c (names_good c h) t v e
