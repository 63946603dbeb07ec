-- A field that is taken by jumps takes what it takes octet by octet.
use Prim.Native.Nat.{ℕ, zero, suc, ◌+◌, ◌-◌, ◌≤◌, ◌<◌}
use mathlib.Core.Path.{◌≡◌, refl, sym, ap, ◌∙◌}
use mathlib.Core.Bool.{Bool, true, false, cond}
use mathlib.Core.List.{List, [], ◌∷◌}
use native.Mathlib.Omega.{arith}
use lib.ListN.{length, drop, get_or}
use lib.Seq.{slice, length-slice, drop-cons}
use borrow.Author.Tests.{lt-ltb, le-ltb, le-leb, lt-leb}
use Rattle.format.specs.Wire.{Stage, any_octet, count, label_length, label_octet, to_the_end, string_count, string_octet, window, block_count, block_octet, stop, fault, go, step, may_end, Taken, short, bad, took, one_more, taken}
use Rattle.format.specs.Field.{any_octets}
use Rattle.format.proofs.Lists.{to_end}
use Rattle.format.proofs.Wire.{takes_end}
use Rattle.octets.proofs.Slices.{next, none, rest}

-- k octets, and then what is taken
abbrev pub plus : ℕ → Taken → Taken
plus k short = short
plus k bad = bad
plus k (took n) = took (k + n)

pub plus_none : (t : Taken) → t ≡ plus 0 t
plus_none short = refl
plus_none bad = refl
plus_none (took n) = ap took (omega arith)

one_plus : (t : Taken) → one_more t ≡ plus 1 t
one_plus short = refl
one_plus bad = refl
one_plus (took n) = ap took (omega arith)

plus_plus : (a b c : ℕ) (t : Taken) → a + b ≡ c → plus a (plus b t) ≡ plus c t
plus_plus a b c short h = refl
plus_plus a b c bad h = refl
plus_plus a b c (took n) h = ap took (omega arith)

-- a stage, and what the next octet does
moved : (st : Stage) (x : ℕ) (xs : List ℕ) (t : Stage) → step st x ≡ go t → taken st (x ∷ xs) ≡ plus 1 (taken t xs)
unfolding taken
moved st x xs t h = rw h (one_plus (taken t xs))

faulted : (st : Stage) (x : ℕ) (xs : List ℕ) → step st x ≡ fault → taken st (x ∷ xs) ≡ bad
unfolding taken
faulted st x xs h = rw h

stopped : (st : Stage) (x : ℕ) (xs : List ℕ) → step st x ≡ stop → taken st (x ∷ xs) ≡ took 1
unfolding taken
stopped st x xs h = rw h

ended : (st : Stage) (b : Bool) → may_end st ≡ b → taken st [] ≡ cond b (took 0) short
unfolding taken
ended st b h = rw h

-- Octets of any value inside a label, a string, a block or a fixed field: n of them are taken at once.
module _ (inside : ℕ → Stage) (on : (n x : ℕ) → step (inside (suc n)) x ≡ go (inside n)) (ends : (n : ℕ) → may_end (inside n) ≡ false) where
  jump : (n : ℕ) (xs : List ℕ) → n ≤ length xs → taken (inside n) xs ≡ plus n (taken (inside 0) (drop n xs))
  jump zero xs h = plus_none (taken (inside 0) xs)
  jump (suc n) [] h = absurd (omega arith)
  jump (suc n) (x ∷ xs) h =
      moved (inside (suc n)) x xs (inside n) (on n x) ∙ ap (plus 1) (jump n xs (omega arith)) ∙ plus_plus 1 n (suc n) (taken (inside 0) (drop n xs)) (omega arith)

  cut : (n : ℕ) (xs : List ℕ) → length xs ≤ n → taken (inside n) xs ≡ short
  cut n [] h = ended (inside n) false (ends n)
  cut zero (x ∷ xs) h = absurd (omega arith)
  cut (suc n) (x ∷ xs) h = moved (inside (suc n)) x xs (inside n) (on n x) ∙ ap (plus 1) (cut n xs (omega arith))

  -- including the last of them
  all_of_lem : (n : ℕ) (t : Stage) (xs : List ℕ) → ((x : ℕ) → step (inside 0) x ≡ go t) → suc n ≤ length xs → taken (inside n) xs ≡ plus (suc n) (taken t (drop (suc n) xs))
  all_of_lem n t xs last h =
      jump n xs (omega arith)
      ∙ ap (λ l. plus n (taken (inside 0) l)) (drop-cons xs n 0 (omega arith))
      ∙ ap (plus n) (moved (inside 0) (get_or xs n 0) (drop (suc n) xs) t (last (get_or xs n 0)))
      ∙ plus_plus n 1 (suc n) (taken t (drop (suc n) xs)) (omega arith)

-- fixed fields
fixed_cut : (n : ℕ) (xs : List ℕ) → length xs ≤ n → taken (any_octet n) xs ≡ short
fixed_cut n xs h = cut any_octet (λ n x. refl) (λ n. refl) n xs h

fixed_all : (n : ℕ) (xs : List ℕ) → suc n ≤ length xs → taken (any_octet n) xs ≡ took (suc n)
fixed_all n xs h =
    jump any_octet (λ n x. refl) (λ n. refl) n xs (omega arith)
    ∙ ap (λ l. plus n (taken (any_octet 0) l)) (drop-cons xs n 0 (omega arith))
    ∙ ap (plus n) (stopped (any_octet 0) (get_or xs n 0) (drop (suc n) xs) refl)
    ∙ ap took (omega arith)

module _ (s : List ℕ) (i e : ℕ) (l : e ≤ length s) where
  long : length (slice i e s) ≡ e - i
  long = length-slice i e s l

  pub octets_cut : (w : ℕ) → e - i < w → short ≡ taken (any_octets w) (slice i e s)
  octets_cut w h = sym (fixed_cut (w - 1) (slice i e s) (omega (arith, long)))

  pub octets_all : (w : ℕ) → 1 ≤ w → w ≤ e - i → took w ≡ taken (any_octets w) (slice i e s)
  octets_all w k h = let q : suc (w - 1) ≡ w = omega arith in sym (fixed_all (w - 1) (slice i e s) (omega (arith, long)) ∙ ap took q)

  pub rest_all : i < e → took (e - i) ≡ taken (to_the_end false) (slice i e s)
  rest_all h = sym (takes_end false (slice i e s) (λ _. omega (arith, long)) ∙ ap took long)

  -- no octet is left
  pub nothing : (st : Stage) (b : Bool) → may_end st ≡ b → e ≤ i → cond b (took 0) short ≡ taken st (slice i e s)
  nothing st b m h = sym (ap (taken st) (none s i e h) ∙ ended st b m)

-- A field at some stage, with at least one octet left.
module _ (s : List ℕ) (i e : ℕ) (l : e ≤ length s) (h : i < e) where
  first : (st : Stage) → taken st (slice i e s) ≡ taken st (get_or s i 0 ∷ slice (i + 1) e s)
  first st = ap (taken st) (next s i e h l)

  left : length (slice (i + 1) e s) ≡ e - (i + 1)
  left = length-slice (i + 1) e s l

  -- the next octet breaks the rule, ends the field, or goes on
  next_faults : (st : Stage) → step st (get_or s i 0) ≡ fault → taken st (slice i e s) ≡ bad
  next_faults st p = first st ∙ faulted st (get_or s i 0) (slice (i + 1) e s) p

  next_stops : (st : Stage) → step st (get_or s i 0) ≡ stop → taken st (slice i e s) ≡ took 1
  next_stops st p = first st ∙ stopped st (get_or s i 0) (slice (i + 1) e s) p

  next_goes : (st t : Stage) → step st (get_or s i 0) ≡ go t → taken st (slice i e s) ≡ plus 1 (taken t (slice (i + 1) e s))
  next_goes st t p = first st ∙ moved st (get_or s i 0) (slice (i + 1) e s) t p

  -- it is a length: so many octets of any value are cut short, or lead to the stage t
  module _ (inside : ℕ → Stage) (on : (n x : ℕ) → step (inside (suc n)) x ≡ go (inside n)) (ends : (n : ℕ) → may_end (inside n) ≡ false) where
    counted_cut : (st : Stage) (n : ℕ) → step st (get_or s i 0) ≡ go (inside n) → e - i ≤ suc n → taken st (slice i e s) ≡ short
    counted_cut st n p k = next_goes st (inside n) p ∙ ap (plus 1) (cut inside on ends n (slice (i + 1) e s) (omega (arith, left)))

    counted_all : (st t : Stage) (n : ℕ) → step st (get_or s i 0) ≡ go (inside n) → ((x : ℕ) → step (inside 0) x ≡ go t) → suc n < e - i
        → taken st (slice i e s) ≡ plus (1 + suc n) (taken t (slice (i + 1 + suc n) e s))
    counted_all st t n p last k =
        next_goes st (inside n) p
        ∙ ap (plus 1) (all_of_lem inside on ends n t (slice (i + 1) e s) last (omega (arith, left)))
        ∙ plus_plus 1 (suc n) (1 + suc n) (taken t (drop (suc n) (slice (i + 1) e s))) refl
        ∙ ap (λ x. plus (1 + suc n) (taken t x)) (rest s (i + 1) (suc n) e)

  -- a count of at least lo
  pub count_low : (lo : ℕ) → get_or s i 0 < lo → bad ≡ taken (count lo) (slice i e s)
  count_low lo k = sym (next_faults (count lo) (rw (lt-ltb (get_or s i 0) lo k)))

  pub count_cut : (lo n : ℕ) → n ≡ get_or s i 0 → lo ≤ n → e - i ≤ n → short ≡ taken (count lo) (slice i e s)
  count_cut lo zero p k q = absurd (omega arith)
  count_cut lo (suc n) p k q = sym (counted_cut any_octet (λ n x. refl) (λ n. refl) (count lo) n (rw (← p, le-ltb (suc n) lo k)) q)

  pub count_all : (lo n : ℕ) → n ≡ get_or s i 0 → lo ≤ n → n < e - i → took (1 + n) ≡ taken (count lo) (slice i e s)
  count_all lo zero p k q = sym (next_stops (count lo) (rw (← p, le-ltb 0 lo k)))
  count_all lo (suc n) p k q =
      sym (next_goes (count lo) (any_octet n) (rw (← p, le-ltb (suc n) lo k)) ∙ ap (plus 1) (fixed_all n (slice (i + 1) e s) (omega (arith, left))))

  -- a string
  string_goes : (b : Bool) (n : ℕ) → suc n ≡ get_or s i 0 → step (string_count b) (get_or s i 0) ≡ go (string_octet n)
  string_goes b n p = rw (← p)

  pub string_cut : (b : Bool) (n : ℕ) → n ≡ get_or s i 0 → e - i ≤ n → taken (string_count b) (slice i e s) ≡ short
  string_cut b zero p q = absurd (omega arith)
  string_cut b (suc n) p q = counted_cut string_octet (λ n x. refl) (λ n. refl) (string_count b) n (string_goes b n p) q

  string_all : (b : Bool) (n : ℕ) → n ≡ get_or s i 0 → n < e - i → taken (string_count b) (slice i e s) ≡ plus (1 + n) (taken (string_count true) (slice (i + 1 + n) e s))
  string_all b zero p q = let z : i + 1 ≡ i + 1 + 0 = omega arith in
      next_goes (string_count b) (string_count true) (rw (← p)) ∙ ap (λ x. plus 1 (taken (string_count true) (slice x e s))) z
  string_all b (suc n) p q = counted_all string_octet (λ n x. refl) (λ n. refl) (string_count b) (string_count true) n (string_goes b n p) (λ x. refl) q

  -- if an octet is left, it does not matter whether the input might end
  pub string_there : (b c : Bool) → taken (string_count b) (slice i e s) ≡ taken (string_count c) (slice i e s)
  unfolding taken
  string_there b c = first (string_count b) ∙ by (get_or s i 0) ∙ sym (first (string_count c))
    where
      by : (x : ℕ) → taken (string_count b) (x ∷ slice (i + 1) e s) ≡ taken (string_count c) (x ∷ slice (i + 1) e s)
      by zero = refl
      by (suc n) = refl

  name_there : (t : ℕ) (b c : Bool) → taken (label_length b t) (slice i e s) ≡ taken (label_length c t) (slice i e s)
  unfolding taken
  name_there t b c = first (label_length b t) ∙ by (get_or s i 0) ∙ sym (first (label_length c t))
    where
      by : (x : ℕ) → taken (label_length b t) (x ∷ slice (i + 1) e s) ≡ taken (label_length c t) (x ∷ slice (i + 1) e s)
      by zero = refl
      by (suc n) = refl

  -- a label after t octets of the name
  module _ (t : ℕ) where
    pub root : get_or s i 0 < 1 → taken (label_length false t) (slice i e s) ≡ took 1
    root k = let z : get_or s i 0 ≡ 0 = omega arith in next_stops (label_length false t) (rw z)

    pub label_long : (n : ℕ) → n ≡ get_or s i 0 → 63 < n → taken (label_length false t) (slice i e s) ≡ bad
    label_long zero p k = absurd (omega arith)
    label_long (suc n) p k = next_faults (label_length false t) (rw (← p, lt-leb (suc n) 63 k))

    pub name_long : (n : ℕ) → n ≡ get_or s i 0 → 1 ≤ n → n ≤ 63 → 255 < t + 1 + n + 1 → taken (label_length false t) (slice i e s) ≡ bad
    name_long zero p z k q = absurd (omega arith)
    name_long (suc n) p z k q = next_faults (label_length false t) (rw (← p, le-leb (suc n) 63 k, lt-leb (t + 1 + suc n + 1) 255 q))

    label_goes : (n : ℕ) → suc n ≡ get_or s i 0 → suc n ≤ 63 → t + 1 + suc n + 1 ≤ 255 → step (label_length false t) (get_or s i 0) ≡ go (label_octet n (t + 1 + suc n))
    label_goes n p k q = rw (← p, le-leb (suc n) 63 k, le-leb (t + 1 + suc n + 1) 255 q)

    pub label_cut : (n : ℕ) → n ≡ get_or s i 0 → n ≤ 63 → t + 1 + n + 1 ≤ 255 → e - i ≤ n → taken (label_length false t) (slice i e s) ≡ short
    label_cut zero p k q z = absurd (omega arith)
    label_cut (suc n) p k q z = counted_cut (λ m. label_octet m (t + 1 + suc n)) (λ n x. refl) (λ n. refl) (label_length false t) n (label_goes n p k q) z

    label_all : (n : ℕ) → n ≡ get_or s i 0 → 1 ≤ n → n ≤ 63 → t + 1 + n + 1 ≤ 255 → n < e - i
        → taken (label_length false t) (slice i e s) ≡ plus (1 + n) (taken (label_length false (t + 1 + n)) (slice (i + 1 + n) e s))
    label_all zero p o k q z = absurd (omega arith)
    label_all (suc n) p o k q z =
        counted_all (λ m. label_octet m (t + 1 + suc n)) (λ n x. refl) (λ n. refl) (label_length false t) (label_length false (t + 1 + suc n)) n (label_goes n p k q) (λ x. refl) z

  -- a block's window, its count and its octets
  pub window_low : (lo : ℕ) → get_or s i 0 < lo → taken (window lo) (slice i e s) ≡ bad
  window_low lo k = next_faults (window lo) (rw (lt-ltb (get_or s i 0) lo k))

  window_on : (lo : ℕ) → lo ≤ get_or s i 0 → taken (window lo) (slice i e s) ≡ plus 1 (taken (block_count (get_or s i 0)) (slice (i + 1) e s))
  window_on lo k = next_goes (window lo) (block_count (get_or s i 0)) (rw (le-ltb (get_or s i 0) lo k))

  module _ (w : ℕ) where
    block_none : get_or s i 0 < 1 → taken (block_count w) (slice i e s) ≡ bad
    block_none k = let z : get_or s i 0 ≡ 0 = omega arith in next_faults (block_count w) (rw z)

    block_long : (n : ℕ) → n ≡ get_or s i 0 → 32 < n → taken (block_count w) (slice i e s) ≡ bad
    block_long zero p k = absurd (omega arith)
    block_long (suc n) p k = next_faults (block_count w) (rw (← p, lt-leb (suc n) 32 k))

    block_goes : (n : ℕ) → suc n ≡ get_or s i 0 → suc n ≤ 32 → step (block_count w) (get_or s i 0) ≡ go (block_octet w n)
    block_goes n p k = rw (← p, le-leb (suc n) 32 k)

    block_cut : (n : ℕ) → n ≡ get_or s i 0 → n ≤ 32 → e - i ≤ n → taken (block_count w) (slice i e s) ≡ short
    block_cut zero p k q = absurd (omega arith)
    block_cut (suc n) p k q = counted_cut (block_octet w) (λ n x. refl) (λ n. refl) (block_count w) n (block_goes n p k) q

    -- up to the last octet of the block
    block_last : (n : ℕ) → suc n ≡ get_or s i 0 → suc n ≤ 32 → suc n < e - i → taken (block_count w) (slice i e s) ≡ plus (suc n) (taken (block_octet w 0) (slice (i + suc n) e s))
    block_last n p k q =
        let z : i + 1 + n ≡ i + suc n = omega arith in
        next_goes (block_count w) (block_octet w n) (block_goes n p k)
        ∙ ap (plus 1) (jump (block_octet w) (λ n x. refl) (λ n. refl) n (slice (i + 1) e s) (omega (arith, left)))
        ∙ plus_plus 1 n (suc n) (taken (block_octet w 0) (drop n (slice (i + 1) e s))) (omega arith)
        ∙ ap (λ x. plus (suc n) (taken (block_octet w 0) x)) (rest s (i + 1) n e)
        ∙ ap (λ x. plus (suc n) (taken (block_octet w 0) (slice x e s))) z

-- what is taken in all, given what is taken from j on, after a + n more octets
goes_on : (j a n : ℕ) (x y z : Taken) → x ≡ plus j y → y ≡ plus (a + n) z → x ≡ plus (j + (a + n)) z
goes_on j a n x y z p q = p ∙ ap (plus j) q ∙ plus_plus j (a + n) (j + (a + n)) z refl

-- what is taken in all, if z is taken of what is left
pub whole : (k : ℕ) (x y z : Taken) → x ≡ plus k y → y ≡ z → plus k z ≡ x
whole k x y z p q = sym (p ∙ ap (plus k) q)

pub whole_so_far : (j : ℕ) (x y : Taken) → x ≡ plus j y → took 0 ≡ y → took j ≡ x
whole_so_far j x y p q = let z : j ≡ j + 0 = omega arith in ap took z ∙ whole j x y (took 0) p (sym q)

-- after a string
pub string_again : (s : List ℕ) (j e : ℕ) → e ≤ length s → j < e → (n : ℕ) (x : Taken) → x ≡ plus j (taken (string_count true) (slice j e s))
    → n ≡ get_or s j 0 → n < e - j → x ≡ plus (j + (1 + n)) (taken (string_count true) (slice (j + (1 + n)) e s))
string_again s j e l h n x v p a =
    let z : j + 1 + n ≡ j + (1 + n) = omega arith in
    goes_on j 1 n x (taken (string_count true) (slice j e s)) (taken (string_count true) (slice (j + (1 + n)) e s)) v
    (string_all s j e l h true n p a ∙ ap (λ k. plus (1 + n) (taken (string_count true) (slice k e s))) z)

-- a name at its first octet, and after a label
pub name_first : (s : List ℕ) (e : ℕ) → e ≤ length s → 0 < e → (b : Bool) → taken (label_length b 0) (slice 0 e s) ≡ plus 0 (taken (label_length false 0) (slice 0 e s))
name_first s e l h b = name_there s 0 e l h 0 b false ∙ plus_none (taken (label_length false 0) (slice 0 e s))

pub label_again : (s : List ℕ) (j e : ℕ) → e ≤ length s → j < e → (n : ℕ) (x : Taken) → x ≡ plus j (taken (label_length false j) (slice j e s))
    → n ≡ get_or s j 0 → 1 ≤ n → n ≤ 63 → j + 1 + n + 1 ≤ 255 → n < e - j → x ≡ plus (j + (1 + n)) (taken (label_length false (j + (1 + n))) (slice (j + (1 + n)) e s))
label_again s j e l h n x v p a b c d =
    let z : j + 1 + n ≡ j + (1 + n) = omega arith in
    goes_on j 1 n x (taken (label_length false j) (slice j e s)) (taken (label_length false (j + (1 + n))) (slice (j + (1 + n)) e s)) v
    (label_all s j e l h j n p a b c d ∙ ap (λ k. plus (1 + n) (taken (label_length false k) (slice k e s))) z)

-- a whole block at j: its window, its count n and its octets
module _ (s : List ℕ) (j e : ℕ) (l : e ≤ length s) (h : j < e) (lo : ℕ) (r : lo ≤ get_or s j 0) where
  abbrev here : List ℕ
  here = slice j e s

  pub window_cut : e - j < 2 → taken (window lo) here ≡ short
  window_cut k =
      window_on s j e l h lo r ∙ ap (plus 1) (sym (nothing s (j + 1) e l (block_count (get_or s j 0)) false refl (omega arith)))

  module _ (k : 2 ≤ e - j) (n : ℕ) (p : n ≡ get_or s (j + 1) 0) where
    k' : j + 1 < e
    k' = omega arith

    pub window_none : n < 1 → taken (window lo) here ≡ bad
    window_none o = window_on s j e l h lo r ∙ ap (plus 1) (block_none s (j + 1) e l k' (get_or s j 0) (omega arith))

    pub window_long : 32 < n → taken (window lo) here ≡ bad
    window_long o = window_on s j e l h lo r ∙ ap (plus 1) (block_long s (j + 1) e l k' (get_or s j 0) n p o)

    module _ (b : n ≤ 32) where
      pub window_short : e - j < 2 + n → taken (window lo) here ≡ short
      window_short q = window_on s j e l h lo r ∙ ap (plus 1) (block_cut s (j + 1) e l k' (get_or s j 0) n p b (omega arith))

      module _ (o : 1 ≤ n) (q : 2 + n ≤ e - j) where
        window_last : taken (window lo) here ≡ plus (1 + n) (taken (block_octet (get_or s j 0) 0) (slice (j + 1 + n) e s))
        window_last = window_on s j e l h lo r ∙ ap (plus 1) (by n p b o q) ∙ plus_plus 1 n (1 + n) (taken (block_octet (get_or s j 0) 0) (slice (j + 1 + n) e s)) refl
          where
            by : (n : ℕ) → n ≡ get_or s (j + 1) 0 → n ≤ 32 → 1 ≤ n → 2 + n ≤ e - j
                → taken (block_count (get_or s j 0)) (slice (j + 1) e s) ≡ plus n (taken (block_octet (get_or s j 0) 0) (slice (j + 1 + n) e s))
            by zero p b o q = absurd (omega arith)
            by (suc n) p b o q = block_last s (j + 1) e l k' (get_or s j 0) n p b (omega arith)

        pub window_zero : get_or s (j + 1 + n) 0 ≡ 0 → taken (window lo) here ≡ bad
        window_zero z = window_last ∙ ap (plus (1 + n)) (next_faults s (j + 1 + n) e l (omega arith) (block_octet (get_or s j 0) 0) (rw z))

        window_all : (get_or s (j + 1 + n) 0 ≡ 0 → ⊥) → taken (window lo) here ≡ plus (2 + n) (taken (window (get_or s j 0 + 1)) (slice (j + 2 + n) e s))
        window_all z =
            let a : j + 1 + n + 1 ≡ j + 2 + n = omega arith in let c : suc (get_or s j 0) ≡ get_or s j 0 + 1 = omega arith in
            window_last
            ∙ ap (plus (1 + n)) (next_goes s (j + 1 + n) e l (omega arith) (block_octet (get_or s j 0) 0) (window (suc (get_or s j 0))) (on (get_or s (j + 1 + n) 0) z))
            ∙ plus_plus (1 + n) 1 (2 + n) (taken (window (suc (get_or s j 0))) (slice (j + 1 + n + 1) e s)) (omega arith)
            ∙ ap (λ x. plus (2 + n) (taken (window (suc (get_or s j 0))) (slice x e s))) a
            ∙ ap (λ x. plus (2 + n) (taken (window x) (slice (j + 2 + n) e s))) c
          where
            on : (x : ℕ) → (x ≡ 0 → ⊥) → step (block_octet (get_or s j 0) 0) x ≡ go (window (suc (get_or s j 0)))
            on zero z = absurd (z refl)
            on (suc x) z = refl

        -- after a block, whose window is w
        pub window_again : (x : Taken) → x ≡ plus j (taken (window lo) here) → (get_or s (j + 1 + n) 0 ≡ 0 → ⊥) → (w : ℕ) → w ≡ get_or s j 0
            → x ≡ plus (j + (2 + n)) (taken (window (w + 1)) (slice (j + (2 + n)) e s))
        window_again x v z w u =
            let y : j + 2 + n ≡ j + (2 + n) = omega arith in
            rw u
            (goes_on j 2 n x (taken (window lo) here) (taken (window (get_or s j 0 + 1)) (slice (j + (2 + n)) e s)) v
            (window_all z ∙ ap (λ k. plus (2 + n) (taken (window (get_or s j 0 + 1)) (slice k e s))) y))

-- a field is taken of all the octets that are left
pub all_left : (st : Stage) (p : List ℕ) → taken st (slice 0 (length p) p) ≡ taken st p
all_left st p = ap (taken st) (to_end p 0)
