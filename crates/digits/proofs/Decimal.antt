-- Laws of a number's digits, stored from the last on, and of its decimal text.
use Prim.Native.Nat.{ℕ, zero, suc, ◌+◌, ◌-◌, ◌*◌, ◌/◌, ◌%◌, ◌^◌, ◌<◌, ◌≤◌}
use mathlib.Core.Path.{◌≡◌, refl, sym, ap, ◌∙◌}
use mathlib.Core.List.{List, [], ◌∷◌, ◌++◌, map}
use native.Mathlib.Nat.{add-zero, lt_of_lt_of_le, mod-eq_of_lt, pow-suc, pow-le-pow_right, div-lt_iff_lt-mul}
use native.Mathlib.Omega.{arith}
use native.Mathlib.Decide.{dec_lt}
use borrow.Author.Tests.{lt-ltb}
use lib.ListN.{length, set, length-map}
use lib.Seq.{sets}
use Rattle.format.specs.Digits.{digits, without_zeros, upper_digit}
use Rattle.format.specs.Number.{fixed_decimal, decimal}
use Rattle.format.specs.Octets.{Below}
use Rattle.format.proofs.Digits.{digits_length, digits_below}
use Rattle.buffer.specs.Writing.{Wrote}
use Rattle.buffer.proofs.Laws.{sets_last}

map_last : (f : ℕ → ℕ) (ds : List ℕ) (d : ℕ) → map f (ds ++ d ∷ []) ≡ map f ds ++ f d ∷ []
map_last f [] d = refl
map_last f (e ∷ ds) d = ap (λ (t : List ℕ). f e ∷ t) (map_last f ds d)

-- the last of the digits may be stored first
pub last_digit : (char : ℕ → ℕ) (b : ℕ) (o o' : List ℕ) (n k x : ℕ) → 0 < k → o' ≡ set o (n + (k - 1)) (char (x % b))
    → sets o' n (map char (digits b (k - 1) (x / b))) ≡ sets o n (map char (digits b k x))
last_digit char b o o' n zero x h p = absurd (omega arith)
last_digit char b o o' n (suc k) x h p =
    let e : suc k - 1 ≡ k = omega arith in
    let p' : o' ≡ set o (n + k) (char (x % b)) = rw e at p in
    let l : length (map char (digits b k (x / b))) ≡ k = length-map (digits b k (x / b)) char ∙ digits_length b k (x / b) in
    rw (e, p', map_last char (digits b k (x / b)) (x % b), sets_last o n (map char (digits b k (x / b))) (char (x % b)), l)

-- no digit is left
pub all_stored : (char : ℕ → ℕ) (b : ℕ) (o₀ o : List ℕ) (n w v k x : ℕ) → k ≤ 0 → sets o n (map char (digits b k x)) ≡ sets o₀ n (map char (digits b w v)) → Wrote o₀ o n (n + w) (map char (digits b w v))
all_stored char b o₀ o n w v zero x h e = record { octets = e; count = ap (λ (l : ℕ). n + l) (sym (length-map (digits b w v) char ∙ digits_length b w v)) }
all_stored char b o₀ o n w v (suc k) x h e = absurd (omega arith)

-- decimal digits are the octets from 48 on, and the digits of octets are themselves
as_octets : (ds : List ℕ) → Below 10 ds → map (λ (d : ℕ). 48 + d) ds ≡ map upper_digit ds
as_octets [] h = refl
as_octets (d ∷ ds) h = rw (lt-ltb d 10 h.0, as_octets ds h.1)

pub decimal_digits : (w v : ℕ) → map (λ (d : ℕ). 48 + d) (digits 10 w v) ≡ fixed_decimal w v
decimal_digits w v = as_octets (digits 10 w v) (digits_below 10 w v (omega arith))

pub map_zero : (xs : List ℕ) → map (λ (x : ℕ). 0 + x) xs ≡ xs
map_zero [] = refl
map_zero (x ∷ xs) = let e : 0 + x ≡ x = omega arith in rw (e, map_zero xs)

fewer : (w n : ℕ) → n < 10 ^ suc w → n / 10 < 10 ^ w
fewer w n h = (div-lt_iff_lt-mul {k = 10} {x = n} {y = 10 ^ w} (omega arith)).1 (rw (pow-suc 10 w) at h)

as_many : (w n : ℕ) → 10 ^ suc w ≤ n → 10 ^ w ≤ n / 10
as_many w n h = let g : 10 ^ w * 10 ≤ n = rw (pow-suc 10 w) at h in omega arith

-- a number with fewer digits begins with a zero, which is not written
lead : (w n : ℕ) → n < 10 ^ w → digits 10 (suc w) n ≡ 0 ∷ digits 10 w n
lead zero n h = let e : n ≡ 0 = omega arith in rw e
lead (suc w) n h = rw (lead w (n / 10) (fewer w n h))

strip_one : (ds : List ℕ) (d : ℕ) → without_zeros (0 ∷ (ds ++ d ∷ [])) ≡ without_zeros (ds ++ d ∷ [])
strip_one [] d = refl
strip_one (e ∷ ds) d = refl

strip : (k w n : ℕ) → n < 10 ^ suc w → without_zeros (digits 10 (suc w + k) n) ≡ without_zeros (digits 10 (suc w) n)
strip zero w n h = rw (add-zero (suc w))
strip (suc k) w n h =
    let q : 10 ^ suc w ≤ 10 ^ (suc w + k) = (let j : suc w ≤ suc w + k = omega arith in pow-le-pow_right (omega arith) j) in
    let l : n < 10 ^ (suc w + k) = lt_of_lt_of_le h q in
    let e : suc w + k ≡ suc (w + k) = omega arith in
    let t : without_zeros (0 ∷ digits 10 (suc w + k) n) ≡ without_zeros (digits 10 (suc w + k) n) = rw e (strip_one (digits 10 (w + k) (n / 10)) (n % 10)) in
    let f : suc w + suc k ≡ suc (suc w + k) = omega arith in
    rw f (ap without_zeros (lead (suc w + k) n l) ∙ t ∙ strip k w n h)

-- a number with as many digits does not begin with a zero
pub record Begins (ds : List ℕ) : Type 0 where
  pub first : ℕ
  pub others : List ℕ
  pub same : ds ≡ suc first ∷ others

begins : (w n : ℕ) → 10 ^ w ≤ n → n < 10 ^ suc w → Begins (digits 10 (suc w) n)
begins zero zero g h = absurd (omega arith)
begins zero (suc n) g h = record { first = n; others = []; same = ap (λ (d : ℕ). d ∷ []) (mod-eq_of_lt (omega arith)) }
begins (suc w) n g h =
    let b = begins w (n / 10) (as_many w n g) (fewer (suc w) n h) in
    record { first = b.first; others = b.others ++ n % 10 ∷ []; same = ap (λ (ds : List ℕ). ds ++ n % 10 ∷ []) b.same }

kept : (ds : List ℕ) → Begins ds → without_zeros ds ≡ ds
kept ds b = ap without_zeros b.same ∙ as_is b.first b.others ∙ sym b.same
  where
    as_is : (d : ℕ) (es : List ℕ) → without_zeros (suc d ∷ es) ≡ suc d ∷ es
    as_is d [] = refl
    as_is d (e ∷ es) = refl

-- so it is written in as many digits as it has
more_digits : (k w v : ℕ) → suc w + k ≡ 10 → 10 ^ w ≤ v → v < 10 ^ suc w → fixed_decimal (suc w) v ≡ decimal v
more_digits k w v e g h =
    ap (map upper_digit) (sym (kept (digits 10 (suc w) v) (begins w v g h)) ∙ sym (strip k w v h) ∙ ap (λ (m : ℕ). without_zeros (digits 10 m v)) e)

pub few_digits : (w v : ℕ) → 10 ^ w ≤ v → v < 10 ^ 10 → w + 1 ≤ 10
few_digits w v g l = by (dec_lt w 10)
  where
    by : Dec (w < 10) → w + 1 ≤ 10
    by (yes h) = omega arith
    by (no h) = let q : 10 ^ 10 ≤ 10 ^ w = (let j : 10 ≤ w = omega arith in pow-le-pow_right (omega arith) j) in absurd (omega arith)

pub as_many_digits : (w v : ℕ) → 10 ^ w ≤ v → v < 10 * 10 ^ w → v < 10 ^ 10 → fixed_decimal (w + 1) v ≡ decimal v
as_many_digits w v g h l =
    let s : w + 1 ≡ suc w = omega arith in
    let k : v < 10 ^ suc w = rw (pow-suc 10 w) (omega arith) in
    rw s (more_digits (9 - w) w v (omega (arith, few_digits w v g l)) g k)
