-- Laws of `taken`: a field that takes n octets takes the same n alone, and, if it is self-ending, whatever follows.
use Prim.Native.Nat.{ℕ, zero, suc, ◌+◌, ◌-◌, ◌≤◌}
use mathlib.Core.Path.{◌≡◌, refl, sym, ap, ◌∙◌, subst}
use mathlib.Core.Bool.{Bool, true, false, not, cond, ◌&&◌, true≢false}
use mathlib.Core.List.{List, [], ◌∷◌, ◌++◌}
use native.Mathlib.Omega.{arith}
use lib.ListN.{length, take}
use lib.Seq.{take-nil}
use lib.Dec.{leb, ltb}
use borrow.Author.Tests.{le-ltb}
use Rattle.format.specs.Wire.{Stage, any_octet, count, label_length, label_octet, to_the_end, string_count, string_octet, window, block_count, block_octet, Move, stop, fault, go, more_octets, step, may_end, Taken, short, bad, took, one_more, after_move, taken}
use Rattle.format.specs.Field.{any_octets}

-- How a field comes to take n of x ∷ xs.
pub data Came (s : Stage) (x : ℕ) (xs : List ℕ) (n : ℕ) : Type 0 where
  stops : step s x ≡ stop → n ≡ 1 → Came s x xs n
  goes : (t : Stage) (m : ℕ) → step s x ≡ go t → taken t xs ≡ took m → n ≡ suc m → Came s x xs n

pub came : (s : Stage) (x : ℕ) (xs : List ℕ) (n : ℕ) → taken s (x ∷ xs) ≡ took n → Came s x xs n
unfolding taken
came s x xs n e = by (step s x) refl e
  where
    on : (t : Stage) (r : Taken) → step s x ≡ go t → taken t xs ≡ r → one_more r ≡ took n → Came s x xs n
    on t short p q f = let z : ◌≡◌ {A = ℕ} 0 1 = cc in absurd (omega arith)
    on t bad p q f = let z : ◌≡◌ {A = ℕ} 0 1 = cc in absurd (omega arith)
    on t (took m) p q f = goes t m p q (cc)

    by : (v : Move) → step s x ≡ v → after_move v (λ t. taken t xs) ≡ took n → Came s x xs n
    by stop p f = stops p (cc)
    by fault p f = let z : ◌≡◌ {A = ℕ} 0 1 = cc in absurd (omega arith)
    by (go t) p f = on t (taken t xs) p refl f

-- At the end of the input a field takes nothing, and only where it may end.
pub at_end_lem : (s : Stage) (n : ℕ) → taken s [] ≡ took n → (may_end s ≡ true) × (n ≡ 0)
unfolding taken
at_end_lem s n e = by (may_end s) refl e
  where
    by : (b : Bool) → may_end s ≡ b → cond b (took 0) short ≡ took n → (may_end s ≡ true) × (n ≡ 0)
    by true p f = (p, cc)
    by false p f = let z : ◌≡◌ {A = ℕ} 0 1 = cc in absurd (omega arith)

pub fits : (s : Stage) (xs : List ℕ) (n : ℕ) → taken s xs ≡ took n → n ≤ length xs
fits s [] n e = let h = at_end_lem s n e in omega arith
fits s (x ∷ xs) n e = by (came s x xs n e) (λ t m. fits t xs m)
  where
    by : Came s x xs n → ((t : Stage) (m : ℕ) → taken t xs ≡ took m → m ≤ length xs) → n ≤ suc (length xs)
    by (stops p q) ih = omega arith
    by (goes t m p q r) ih = omega (arith, ih t m q)

-- n octets are enough for a field that takes n
pub alone : (s : Stage) (xs : List ℕ) (n : ℕ) → taken s xs ≡ took n → taken s (take n xs) ≡ took n
unfolding taken
alone s [] n e = rw (take-nil n) e
alone s (x ∷ xs) n e = by (came s x xs n e) (λ t m. alone t xs m)
  where
    by : Came s x xs n → ((t : Stage) (m : ℕ) → taken t xs ≡ took m → taken t (take m xs) ≡ took m) → taken s (take n (x ∷ xs)) ≡ took n
    by (stops p q) ih = rw (q, p)
    by (goes t m p q r) ih = rw (r, p, ih t m q)

-- A stage that no end of the input completes: what such a field takes does not depend on what follows it.
abbrev pub self_ending : Stage → Bool
self_ending (any_octet n) = true
self_ending (count lo) = true
self_ending (label_length b t) = not b
self_ending (label_octet n t) = true
self_ending (to_the_end b) = false
self_ending (string_count b) = false
self_ending (string_octet n) = false
self_ending (window lo) = false
self_ending (block_count w) = false
self_ending (block_octet w n) = false

-- such a stage does not end, and leads to such stages
self_ending_end : (s : Stage) → self_ending s ≡ true → may_end s ≡ false
self_ending_end (any_octet n) h = refl
self_ending_end (count lo) h = refl
self_ending_end (label_length true t) h = sym h
self_ending_end (label_length false t) h = refl
self_ending_end (label_octet n t) h = refl
self_ending_end (to_the_end b) h = cc
self_ending_end (string_count b) h = cc
self_ending_end (string_octet n) h = cc
self_ending_end (window lo) h = cc
self_ending_end (block_count w) h = cc
self_ending_end (block_octet w n) h = cc

data Stays : Move → Type 0 where
  stops_there : Stays stop
  faults_there : Stays fault
  goes_there : {t : Stage} → self_ending t ≡ true → Stays (go t)

stays_cond : (b : Bool) (m n : Move) → Stays m → Stays n → Stays (cond b m n)
stays_cond true m n h k = h
stays_cond false m n h k = k

more_stays : (n : ℕ) → Stays (more_octets n)
more_stays zero = stops_there
more_stays (suc n) = goes_there refl

stays : (s : Stage) (x : ℕ) → self_ending s ≡ true → Stays (step s x)
stays (any_octet n) x h = more_stays n
stays (count lo) x h = stays_cond (ltb x lo) fault (more_octets x) faults_there (more_stays x)
stays (label_length b l) zero h = stops_there
stays (label_length b l) (suc n) h =
    stays_cond (leb (suc n) 63 && leb (l + 1 + suc n + 1) 255) (go (label_octet n (l + 1 + suc n))) fault (goes_there refl) faults_there
stays (label_octet zero l) x h = goes_there refl
stays (label_octet (suc n) l) x h = goes_there refl
stays (to_the_end b) x h = absurd (true≢false (sym h))
stays (string_count b) x h = absurd (true≢false (sym h))
stays (string_octet n) x h = absurd (true≢false (sym h))
stays (window lo) x h = absurd (true≢false (sym h))
stays (block_count w) x h = absurd (true≢false (sym h))
stays (block_octet w n) x h = absurd (true≢false (sym h))

self_ending_step : (s : Stage) (x : ℕ) (t : Stage) → self_ending s ≡ true → step s x ≡ go t → self_ending t ≡ true
self_ending_step s x t h e = by t (subst Stays e (stays s x h))
  where
    by : (t : Stage) → Stays (go t) → self_ending t ≡ true
    by t (goes_there k) = k

-- what follows does not change what it takes
pub anyhow : (s : Stage) (xs ys : List ℕ) (n : ℕ) → self_ending s ≡ true → taken s xs ≡ took n → taken s (xs ++ ys) ≡ took n
unfolding taken
anyhow s [] ys n h e = cc ((at_end_lem s n e).0, self_ending_end s h)
anyhow s (x ∷ xs) ys n h e = by (came s x xs n e) (λ t m. anyhow t xs ys m)
  where
    by : Came s x xs n → ((t : Stage) (m : ℕ) → self_ending t ≡ true → taken t xs ≡ took m → taken t (xs ++ ys) ≡ took m) → taken s (x ∷ (xs ++ ys)) ≡ took n
    by (stops p q) ih = rw (q, p)
    by (goes t m p q r) ih = rw (r, p, ih t m (self_ending_step s x t h p) q)

-- a field of n + 1 octets takes them
pub need_takes : (n : ℕ) (xs : List ℕ) (m : ℕ) → taken (any_octet n) xs ≡ took m → m ≡ suc n
need_takes n [] m e = let z : ◌≡◌ {A = ℕ} 0 1 = cc (at_end_lem (any_octet n) m e).0 in absurd (omega arith)
need_takes zero (x ∷ xs) m e = by (came (any_octet zero) x xs m e)
  where
    by : Came (any_octet zero) x xs m → m ≡ 1
    by (stops p q) = q
    by (goes t l p q r) = let z : ◌≡◌ {A = ℕ} 0 1 = cc in absurd (omega arith)
need_takes (suc n) (x ∷ xs) m e = by (came (any_octet (suc n)) x xs m e) (λ l. need_takes n xs l)
  where
    by : Came (any_octet (suc n)) x xs m → ((l : ℕ) → taken (any_octet n) xs ≡ took l → l ≡ suc n) → m ≡ suc (suc n)
    by (stops p q) ih = let z : ◌≡◌ {A = ℕ} 0 1 = cc in absurd (omega arith)
    by (goes t l p q r) ih = let w : t ≡ any_octet n = cc in omega (arith, ih l (rw w at q))

-- w octets of any value
pub octets_taken : (w : ℕ) (p : List ℕ) → 1 ≤ w → taken (any_octets w) p ≡ took (length p) → length p ≡ w
octets_taken w p h e = omega (arith, need_takes (w - 1) p (length p) e)

takes_octets : (n : ℕ) (p : List ℕ) → length p ≡ suc n → taken (any_octet n) p ≡ took (suc n)
unfolding taken
takes_octets n [] e = absurd (omega arith)
takes_octets zero (x ∷ []) e = refl
takes_octets zero (x ∷ y ∷ p) e = absurd (omega arith)
takes_octets (suc n) (x ∷ p) e = rw (takes_octets n p (omega arith))

pub takes_width : (w : ℕ) (p : List ℕ) → 1 ≤ w → length p ≡ w → taken (any_octets w) p ≡ took (length p)
takes_width w p h e = let q : length p ≡ suc (w - 1) = omega arith in takes_octets (w - 1) p q ∙ ap took (sym q)

-- a count and as many octets
pub takes_count : (lo : ℕ) (t : List ℕ) → lo ≤ length t → taken (count lo) (length t ∷ t) ≡ took (suc (length t))
unfolding taken
takes_count lo [] h = rw (le-ltb 0 lo h)
takes_count lo (x ∷ t) h = rw (le-ltb (suc (length t)) lo h, takes_octets (length t) (x ∷ t) refl)

-- any octets to the end
pub takes_end : (b : Bool) (p : List ℕ) → (b ≡ false → 1 ≤ length p) → taken (to_the_end b) p ≡ took (length p)
unfolding taken
takes_end true [] h = refl
takes_end false [] h = let l = h refl in absurd (omega arith)
takes_end b (x ∷ p) h = rw (takes_end true p (λ e. absurd (true≢false e)))

pub end_some : (p : List ℕ) → taken (to_the_end false) p ≡ took (length p) → 1 ≤ length p
end_some [] e = let z : ◌≡◌ {A = ℕ} 0 1 = cc (at_end_lem (to_the_end false) 0 e).0 in absurd (omega arith)
end_some (x ∷ p) e = omega arith

pub one_less : (r : Taken) (n : ℕ) → one_more r ≡ took (suc n) → r ≡ took n
one_less short n e = cc
one_less bad n e = cc
one_less (took m) n e = cc
