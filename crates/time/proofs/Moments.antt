-- Laws of a moment's days and seconds, and of its digits.
use Prim.Native.Nat.{ℕ, zero, suc, ◌+◌, ◌*◌, ◌-◌, ◌/◌, ◌%◌, ◌^◌, ◌≤◌, ◌<◌}
use mathlib.Core.Path.{◌≡◌, refl, sym, ap, ◌∙◌}
use mathlib.Core.Bool.{Bool, true, false, cond, ◌&&◌}
use native.Mathlib.Nat.{add-zero, pow-zero, pow-suc, mul-add-div_right, mul-add-mod_self_right, div-eq_of_lt, mod-eq_of_lt}
use native.Mathlib.Omega.{arith}
use mathlib.Core.List.{List, [], ◌∷◌, ◌++◌}
use Rattle.std.specs.Prelude.{Option, None, Some}
use lib.ListN.{length, take, drop, length-append, length-take, length-drop, take-append-drop}
use lib.Seq.{take-take, drop-drop, take_at, drop_at}
use lib.Dec.{eqb, ltb, leb}
use borrow.Author.Tests.{lt-ltb, le-ltb, le-leb, eqb-true, leb-true, ltb-true}
use Rattle.format.specs.Lists.{◌>>=◌, provided, cons_both, each_of}
use Rattle.format.specs.Octets.{Below, in_range, digit, letter, lowered}
use Rattle.format.specs.Digits.{number_from, number, digit_value}
use Rattle.format.specs.Number.{decimal_of}
use Rattle.format.specs.Time.{leap, month_days, month_length, days_before, moment, digits_at, moment_of}
use Rattle.format.proofs.Lists.{and_left, and_right, provided_some, below_append, below_take, below_drop}
use Rattle.format.proofs.Digits.{number_bound, number_append}
use Rattle.format.proofs.Finite.{at_each}
use Rattle.octets.proofs.Slices.{lent}
use Rattle.time.specs.Years.{year_days, days_in}
use Rattle.time.specs.Moments.{real_day, moment_read}
use Rattle.time.proofs.Days.{in_year, year_next, month_at}

-- the days before a year: one fewer after 2100
abbrev late : ℕ → ℕ
late y = cond (ltb 130 y) 1 0

year_step : (y : ℕ) → y < 137 → year_days (1970 + y) + late (y + 1) + (y + 1) / 4 ≡ 365 + late y + (y + 1 + 1) / 4
year_step y h = eqb-true _ _ (at_each (λ y. eqb (year_days (1970 + y) + late (y + 1) + (y + 1) / 4) (365 + late y + (y + 1 + 1) / 4)) 137 refl y h)

year_days_lem : (y : ℕ) → y ≤ 137 → days_before (y * 12) + late y ≡ y * 365 + (y + 1) / 4
year_days_lem zero h = refl
year_days_lem (suc y) h =
    let q : suc y ≡ y + 1 = omega arith in
    rw q (omega (arith, year_next y, year_step y (omega arith), year_days_lem y (omega arith)))

pub year_early : (y : ℕ) → y ≤ 130 → y * 365 + (y + 1) / 4 ≡ days_before (y * 12)
year_early y h = omega (arith, rw (le-ltb 130 y h) at (year_days_lem y (omega arith)))

pub year_late : (y : ℕ) → 130 < y → y ≤ 137 → y * 365 + (y + 1) / 4 - 1 ≡ days_before (y * 12)
year_late y h k = omega (arith, rw (lt-ltb 130 y h) at (year_days_lem y k))

-- the days of a year before a month: fewer after February
abbrev fewer : Bool → ℕ → ℕ
fewer b m = cond (ltb m 2) 0 (cond b 1 2)

month_days_lem : (b : Bool) (m : ℕ) → m < 12 → days_in b m + fewer b m ≡ m * 30 + (m + 1 + m / 8) / 2
month_days_lem true m h = eqb-true _ _ (at_each (λ m. eqb (days_in true m + fewer true m) (m * 30 + (m + 1 + m / 8) / 2)) 12 refl m h)
month_days_lem false m h = eqb-true _ _ (at_each (λ m. eqb (days_in false m + fewer false m) (m * 30 + (m + 1 + m / 8) / 2)) 12 refl m h)

pub month_later : (b : Bool) (m : ℕ) → 2 ≤ m → m < 12 → m * 30 + (m + 1 + m / 8) / 2 - cond b 1 2 ≡ days_in b m
month_later b m h k = omega (arith, rw (le-ltb m 2 h) at (month_days_lem b m k))

pub days_before_lem : (year month a b : ℕ) → 1970 ≤ year → 1 ≤ month → month ≤ 12 → a ≡ days_before ((year - 1970) * 12) → b ≡ days_in (leap year) (month - 1)
    → a + b ≡ days_before ((year - 1970) * 12 + (month - 1))
days_before_lem year month a b h k l p q =
    let y : 1970 + (year - 1970) ≡ year = omega arith in
    rw (in_year (year - 1970) (month - 1) (omega arith), y, p, q)

-- a day of the calendar
pub real_month : (year month : ℕ) → 1970 ≤ year → 1 ≤ month → month ≤ 12 → month_length ((year - 1970) * 12 + (month - 1)) ≡ month_days (leap year) (month - 1)
real_month year month h k l =
    let y : 1970 + (year - 1970) ≡ year = omega arith in
    month_at (year - 1970) (month - 1) (omega arith) ∙ rw y

month_31 : (b : Bool) (m : ℕ) → m < 12 → month_days b m ≤ 31
month_31 true m h = leb-true _ _ (at_each (λ m. leb (month_days true m) 31) 12 refl m h)
month_31 false m h = leb-true _ _ (at_each (λ m. leb (month_days false m) 31) 12 refl m h)

pub record Real (year month day : ℕ) : Type 0 where
  pub first : 1970 ≤ year
  pub last : year ≤ 2106
  pub january : 1 ≤ month
  pub december : month ≤ 12
  pub some_day : 1 ≤ day
  pub in_month : day ≤ 31

pub real : (year month day : ℕ) → real_day year month day ≡ true → Real year month day
real year month day e = by (in_range 1970 2106 year && in_range 1 12 month) refl e
  where
    by : (b : Bool) → in_range 1970 2106 year && in_range 1 12 month ≡ b → cond b (in_range 1 (month_length ((year - 1970) * 12 + (month - 1))) day) false ≡ true → Real year month day
    by true a d =
        let y = and_left (in_range 1970 2106 year) (in_range 1 12 month) a in
        let m = and_right (in_range 1970 2106 year) (in_range 1 12 month) a in
        let k = (year - 1970) * 12 + (month - 1) in
        let f = leb-true 1970 year (and_left (leb 1970 year) (leb year 2106) y) in
        let g = leb-true 1 month (and_left (leb 1 month) (leb month 12) m) in
        let h = leb-true month 12 (and_right (leb 1 month) (leb month 12) m) in
        record {
          first = f;
          last = leb-true year 2106 (and_right (leb 1970 year) (leb year 2106) y);
          january = g;
          december = h;
          some_day = leb-true 1 day (and_left (leb 1 day) (leb day (month_length k)) d);
          in_month = omega (arith, leb-true day (month_length k) (and_right (leb 1 day) (leb day (month_length k)) d), real_month year month f g h, month_31 (leap year) (month - 1) (omega arith));
        }
    by false a d = let z : ◌≡◌ {A = ℕ} 0 1 = cc in absurd (omega arith)

-- the numbers of the first and of the last digits
module _ (b : ℕ) where
  from_number : (a : ℕ) (ds : List ℕ) → number_from b a ds ≡ a * b ^ length ds + number b ds
  from_number a [] = rw (pow-zero b) (omega arith)
  from_number a (d ∷ ds) = rw (pow-suc b (length ds)) (omega (arith, from_number (a * b + d) ds, from_number (0 * b + d) ds))

  number_parts : (xs ys : List ℕ) → number b (xs ++ ys) ≡ number b xs * b ^ length ys + number b ys
  number_parts xs ys = number_append b 0 xs ys ∙ from_number (number b xs) ys

  module _ (ds : List ℕ) (h : Below b ds) (n q : ℕ) (e : length ds ≡ n + q) where
    back_length : length (drop n ds) ≡ q
    back_length = omega (arith, length-drop n ds)

    in_parts : number b ds ≡ number b (take n ds) * b ^ q + number b (drop n ds)
    in_parts = rw back_length at (ap (number b) (sym (take-append-drop n ds)) ∙ number_parts (take n ds) (drop n ds))

    small : number b (drop n ds) < b ^ q
    small = rw back_length at (number_bound b (drop n ds) (below_drop b n ds h))

    front_number : number b (take n ds) ≡ number b ds / b ^ q
    front_number =
        let p : 0 < b ^ q = omega (arith, small) in
        sym (ap (λ (k : ℕ). k / b ^ q) in_parts ∙ mul-add-div_right p (number b (take n ds)) (number b (drop n ds)) ∙ ap (λ (k : ℕ). number b (take n ds) + k) (div-eq_of_lt small) ∙ add-zero (number b (take n ds)))

    back_number : number b (drop n ds) ≡ number b ds % b ^ q
    back_number = sym (ap (λ (k : ℕ). k % b ^ q) in_parts ∙ mul-add-mod_self_right (number b (take n ds)) (b ^ q) (number b (drop n ds)) ∙ mod-eq_of_lt small)

  -- the number of the n digits after the first p, with q after them
  mid_number : (ds : List ℕ) → Below b ds → (p n q : ℕ) → length ds ≡ p + n + q → number b (take n (drop p ds)) ≡ number b ds / b ^ q % b ^ n
  mid_number ds h p n q e =
      let r : p + n - p ≡ n = omega arith in
      let l : length (take (p + n) ds) ≡ p + n = omega (arith, length-take (p + n) ds) in
      ap (λ (k : ℕ). number b (take k (drop p ds))) (sym r) ∙ ap (number b) (lent ds p (p + n) (omega arith))
      ∙ back_number (take (p + n) ds) (below_take b (p + n) ds h) p n l ∙ ap (λ (k : ℕ). k % b ^ n) (front_number ds h (p + n) q e)

-- the moment of 14 digits, given the number of its day and that of its time
abbrev pub moment_from : ℕ → ℕ → Option ℕ
moment_from d s = moment (d / 10000) (d / 100 % 100) (d % 100) (s / 10000) (s / 100 % 100) (s % 100)

within : (ds : List ℕ) (p n m : ℕ) → p + n ≤ m → take n (drop p (take m ds)) ≡ take n (drop p ds)
within ds p n m h =
    let r : p + n - p ≡ n = omega arith in
    let f : (xs : List ℕ) → take n (drop p xs) ≡ drop p (take (p + n) xs) = λ xs. ap (λ (k : ℕ). take k (drop p xs)) (sym r) ∙ lent xs p (p + n) (omega arith) in
    f (take m ds) ∙ ap (drop p) (take-take (p + n) m ds h) ∙ sym (f ds)

same_moment : {a b c d e f : ℕ} {a' b' c' d' e' f' : ℕ} → a ≡ a' → b ≡ b' → c ≡ c' → d ≡ d' → e ≡ e' → f ≡ f' → moment a b c d e f ≡ moment a' b' c' d' e' f'
same_moment p q r s t u = rw (p, q, r, s, t, u)

module _ (ds : List ℕ) (h : Below 10 ds) (e : length ds ≡ 14) where
  day_digits : (p n q : ℕ) → p + n + q ≡ 8 → digits_at p n ds ≡ number 10 (take 8 ds) / 10 ^ q % 10 ^ n
  day_digits p n q k = ap (number 10) (sym (within ds p n 8 (omega arith))) ∙ mid_number 10 (take 8 ds) (below_take 10 8 ds h) p n q (omega (arith, length-take 8 ds))

  time_digits : (p n q : ℕ) → p + n + q ≡ 6 → digits_at (8 + p) n ds ≡ number 10 (drop 8 ds) / 10 ^ q % 10 ^ n
  time_digits p n q k = ap (λ (l : List ℕ). number 10 (take n l)) (sym (drop-drop p 8 ds)) ∙ mid_number 10 (drop 8 ds) (below_drop 10 8 ds h) p n q (omega (arith, length-drop 8 ds))

  moment_digits_lem : moment_of ds ≡ moment_from (number 10 (take 8 ds)) (number 10 (drop 8 ds))
  moment_digits_lem =
      let l : number 10 (take 8 ds) < 10 ^ 8 = (let k : length (take 8 ds) ≡ 8 = omega (arith, length-take 8 ds) in rw k at (number_bound 10 (take 8 ds) (below_take 10 8 ds h))) in
      let m : number 10 (drop 8 ds) < 10 ^ 6 = (let k : length (drop 8 ds) ≡ 6 = omega (arith, length-drop 8 ds) in rw k at (number_bound 10 (drop 8 ds) (below_drop 10 8 ds h))) in
      let a : digits_at 0 4 ds ≡ number 10 (take 8 ds) / 10000 = omega (arith, day_digits 0 4 4 refl) in
      let b : digits_at 6 2 ds ≡ number 10 (take 8 ds) % 100 = omega (arith, day_digits 6 2 0 refl) in
      let c : digits_at 8 2 ds ≡ number 10 (drop 8 ds) / 10000 = omega (arith, time_digits 0 2 4 refl) in
      let d : digits_at 12 2 ds ≡ number 10 (drop 8 ds) % 100 = omega (arith, time_digits 4 2 0 refl) in
      same_moment a (day_digits 4 2 2 refl) b c (time_digits 2 2 2 refl) d

-- digits that are read are as many as the octets, each below 10
digit_small : (x d : ℕ) → digit_value 10 x ≡ Some d → d < 10
digit_small x d e = by (digit x) (letter x) e
  where
    in_base : (v : ℕ) → provided (ltb v 10) v ≡ Some d → d < 10
    in_base v k = let (f, g) = provided_some (ltb v 10) v d k in omega (arith, ltb-true v 10 f)

    by : (a b : Bool) → cond a (provided (ltb (x - 48) 10) (x - 48)) (cond b (provided (ltb (lowered x - 97 + 10) 10) (lowered x - 97 + 10)) None) ≡ Some d → d < 10
    by true b k = in_base (x - 48) k
    by false true k = in_base (lowered x - 97 + 10) k
    by false false k = let z : ◌≡◌ {A = ℕ} 0 1 = cc in absurd (omega arith)

digits_read : (xs ds : List ℕ) → each_of (digit_value 10) xs ≡ Some ds → (length ds ≡ length xs) × Below 10 ds
digits_read [] ds e = let q : [] ≡ ds = cc in rw (← q) (refl, tt)
digits_read (x ∷ xs) ds e = by (digit_value 10 x) refl (each_of (digit_value 10) xs) refl e (digits_read xs)
  where
    by : (o : Option ℕ) → digit_value 10 x ≡ o → (p : Option (List ℕ)) → each_of (digit_value 10) xs ≡ p → cons_both o p ≡ Some ds
        → ((es : List ℕ) → each_of (digit_value 10) xs ≡ Some es → (length es ≡ length xs) × Below 10 es) → (length ds ≡ length (x ∷ xs)) × Below 10 ds
    by None a p b k ih = let z : ◌≡◌ {A = ℕ} 0 1 = cc in absurd (omega arith)
    by (Some d) a None b k ih = let z : ◌≡◌ {A = ℕ} 0 1 = cc in absurd (omega arith)
    by (Some d) a (Some es) b k ih = let q : d ∷ es ≡ ds = cc in let (l, m) = ih es b in rw (← q) (ap suc l, (digit_small x d a, m))

-- a partial function applied to each of two parts
each_parts : (f : ℕ → Option ℕ) (xs ys : List ℕ) → each_of f (xs ++ ys) ≡ (each_of f xs >>= λ us. each_of f ys >>= λ vs. Some (us ++ vs))
each_parts f [] ys = by (each_of f ys)
  where
    by : (o : Option (List ℕ)) → o ≡ (o >>= λ vs. Some vs)
    by None = refl
    by (Some vs) = refl
each_parts f (x ∷ xs) ys = rw (each_parts f xs ys) (by (f x) (each_of f xs) (each_of f ys))
  where
    by : (o : Option ℕ) (p q : Option (List ℕ)) → cons_both o (p >>= λ us. q >>= λ vs. Some (us ++ vs)) ≡ (cons_both o p >>= λ us. q >>= λ vs. Some (us ++ vs))
    by None p q = refl
    by (Some y) None q = refl
    by (Some y) (Some us) None = refl
    by (Some y) (Some us) (Some vs) = refl

-- the moment of 14 digits, from the numbers of the first eight and of the others
decimal_digits : (xs : List ℕ) → 1 ≤ length xs → length xs ≤ 10 → decimal_of xs ≡ (each_of (digit_value 10) xs >>= λ ds. Some (number 10 ds))
decimal_digits xs h k = rw (le-leb 1 (length xs) h, le-leb (length xs) 10 k)

abbrev moment_by : Option ℕ → Option ℕ → Option ℕ
moment_by o p = o >>= λ d. p >>= λ s. moment_from d s

both_parts : (xs ys : List ℕ) → length xs ≡ 8 → length ys ≡ 6 → moment_read (xs ++ ys) ≡ moment_by (decimal_of xs) (decimal_of ys)
both_parts xs ys h k =
    rw (each_parts (digit_value 10) xs ys, decimal_digits xs (omega arith) (omega arith), decimal_digits ys (omega arith) (omega arith))
    (by (each_of (digit_value 10) xs) refl (each_of (digit_value 10) ys) refl)
  where
    by : (o : Option (List ℕ)) → each_of (digit_value 10) xs ≡ o → (p : Option (List ℕ)) → each_of (digit_value 10) ys ≡ p
        → ((o >>= λ us. p >>= λ vs. Some (us ++ vs)) >>= moment_of) ≡ moment_by (o >>= λ ds. Some (number 10 ds)) (p >>= λ ds. Some (number 10 ds))
    by None a p b = refl
    by (Some us) a None b = refl
    by (Some us) a (Some vs) b =
        let (l, f) = digits_read xs us a in
        let (m, g) = digits_read ys vs b in
        let q : length us ≡ 8 = l ∙ h in
        moment_digits_lem (us ++ vs) (below_append 10 us vs f g) (omega (arith, length-append us vs)) ∙ rw (take_at us vs 8 q, drop_at us vs 8 q)

-- those are the parts of the text
pub moment_parts : (t : List ℕ) → length t ≡ 14 → moment_read t ≡ moment_by (decimal_of (take 8 t)) (decimal_of (drop 8 t))
moment_parts t h =
    ap moment_read (sym (take-append-drop 8 t))
    ∙ both_parts (take 8 t) (drop 8 t) (omega (arith, length-take 8 t)) (omega (arith, length-drop 8 t))
