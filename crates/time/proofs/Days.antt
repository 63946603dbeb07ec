-- Laws of days counted over months and years, and of a moment's text given its month and day.
use Prim.Native.Nat.{ℕ, zero, suc, ◌+◌, ◌*◌, ◌-◌, ◌/◌, ◌%◌, ◌≤◌, ◌<◌}
use mathlib.Core.Path.{◌≡◌, refl, ap, ◌∙◌}
use mathlib.Core.Bool.{Bool, true, false, cond}
use native.Mathlib.Omega.{arith}
use native.Mathlib.Decide.{dec_lt}
use lib.Dec.{eqb}
use borrow.Author.Tests.{lt-ltb, le-ltb, eqb-true}
use Rattle.format.specs.Time.{leap, month_days, month_length, days_before, Day, day_from, day_of, moment_text}
use Rattle.format.proofs.Finite.{at_each}
use Rattle.time.specs.Years.{year_days, days_in}

-- there are no fewer days before a later month
days_grow : (m k : ℕ) → days_before k ≤ days_before (m + k)
days_grow zero k = let q : 0 + k ≡ k = omega arith in rw q (omega arith)
days_grow (suc m) k = let q : suc m + k ≡ suc (m + k) = omega arith in rw q (omega (arith, days_grow m k))

-- m whole months are skipped
passed : (m n k d e : ℕ) → days_before k + d ≡ days_before (m + k) + e → day_from (m + n) k d ≡ day_from n (m + k) e
passed zero n k d e h =
    let a : 0 + n ≡ n = omega arith in
    let b : 0 + k ≡ k = omega arith in
    let q : d ≡ e = omega (arith, rw b at h) in
    rw (a, b, q)
passed (suc m) n k d e h =
    let a : suc m + n ≡ suc (m + n) = omega arith in
    let b : suc m + k ≡ m + suc k = omega arith in
    let g = days_grow m (suc k) in
    let i : days_before k + d ≡ days_before (m + suc k) + e = rw b at h in
    rw (a, b, le-ltb d (month_length k) (omega arith)) (passed m n (suc k) (d - month_length k) e (omega arith))

-- the month that a day lies in
day_in : (f k d e : ℕ) → k < f → days_before k + e ≡ d → e < month_length k → day_from f 0 d ≡ record { month = k; day = e }
day_in f k d e l h i =
    let a : f ≡ k + suc (f - suc k) = omega arith in
    let b : k + 0 ≡ k = omega arith in
    let g : days_before 0 + d ≡ days_before (k + 0) + e = rw b (omega arith) in
    rw a (passed k (suc (f - suc k)) 0 d e g ∙ rw (b, lt-ltb e (month_length k) i))

pub day_is : (k d e : ℕ) → k < 1644 → days_before k + e ≡ d → e < month_length k → day_of d ≡ record { month = k; day = e }
day_is k d e l h i = day_in 1644 k d e l h i

-- a day in range is before 2107
pub month_below : (k d : ℕ) → days_before k ≤ d → d ≤ 49710 → k < 1644
month_below k d h l = by (dec_lt k 1644)
  where
    by : Dec (k < 1644) → k < 1644
    by (yes a) = a
    by (no a) =
        let q : k - 1644 + 1644 ≡ k = omega arith in
        let g : days_before 1644 ≤ days_before k = rw q at (days_grow (k - 1644) 1644) in
        let v : days_before 1644 ≡ 50038 = refl in
        absurd (omega arith)

-- the months of a year
pub month_at : (y m : ℕ) → m < 12 → month_length (y * 12 + m) ≡ month_days (leap (1970 + y)) m
month_at y m h =
    let a : (y * 12 + m) / 12 ≡ y = omega arith in
    let b : (y * 12 + m) % 12 ≡ m = omega arith in
    rw (a, b)

pub in_year : (y m : ℕ) → m ≤ 12 → days_before (y * 12 + m) ≡ days_before (y * 12) + days_in (leap (1970 + y)) m
in_year y zero h = let q : y * 12 + 0 ≡ y * 12 = omega arith in rw q (omega arith)
in_year y (suc m) h =
    let q : y * 12 + suc m ≡ suc (y * 12 + m) = omega arith in
    rw q (omega (arith, in_year y m (omega arith), month_at y m (omega arith)))

pub year_after : (y : ℕ) → days_before (y * 12 + 12) ≡ days_before (y * 12) + year_days (1970 + y)
year_after y = in_year y 12 (omega arith) ∙ ap (λ n. days_before (y * 12) + n) (by (leap (1970 + y)))
  where
    by : (b : Bool) → days_in b 12 ≡ cond b 366 365
    by true = refl
    by false = refl

pub year_next : (y : ℕ) → days_before ((y + 1) * 12) ≡ days_before (y * 12) + year_days (1970 + y)
year_next y = let q : (y + 1) * 12 ≡ y * 12 + 12 = omega arith in ap days_before q ∙ year_after y

-- the days of four years, starting with 1970, 1974 and so on, up to 2097
abbrev four_years : ℕ → ℕ
four_years y = year_days (1970 + y) + year_days (1970 + (y + 1)) + year_days (1970 + (y + 1 + 1)) + year_days (1970 + (y + 1 + 1 + 1))

four_years_lem : (c : ℕ) → c < 32 → four_years (c * 4) ≡ 1461
four_years_lem c h = eqb-true _ _ (at_each (λ c. eqb (four_years (c * 4)) 1461) 32 refl c h)

pub cycle_days : (c : ℕ) → c ≤ 32 → days_before (c * 4 * 12) ≡ c * 1461
cycle_days zero h = refl
cycle_days (suc c) h =
    let q : suc c * 4 * 12 ≡ (c * 4 + 1 + 1 + 1 + 1) * 12 = omega arith in
    ap days_before q ∙ omega (
      arith,
      cycle_days c (omega arith),
      four_years_lem c (omega arith),
      year_next (c * 4),
      year_next (c * 4 + 1),
      year_next (c * 4 + 1 + 1),
      year_next (c * 4 + 1 + 1 + 1),
    )

-- the months of a year, one after another: b says whether it is a leap year, and n is how many days month m has
module _ (y m n : ℕ) (b : Bool) (l : b ≡ leap (1970 + y)) (e : n ≡ month_days b m) (h : m < 12) where
  pub month_here : month_length (y * 12 + m) ≡ n
  month_here = month_at y m h ∙ rw (← l, e)

  pub month_next : days_before (y * 12 + (m + 1)) ≡ days_before (y * 12 + m) + n
  month_next = let q : y * 12 + (m + 1) ≡ suc (y * 12 + m) = omega arith in rw q (omega (arith, month_here))

  -- the day that is r days after the first of that month
  pub day_at : (d r : ℕ) → days_before (y * 12 + m) + r ≡ d → d ≤ 49710 → r < n → day_of d ≡ record { month = y * 12 + m; day = r }
  day_at d r f g k =
      day_is (y * 12 + m) d r (month_below (y * 12 + m) d (omega (arith, f)) g) f (omega (arith, month_here, k))

-- a moment's text
pub moment_of_lem : (x : Day) (a b s : ℕ) → a ≡ x.month → b ≡ x.day → moment_text (record { month = a; day = b }) s ≡ moment_text x s
moment_of_lem x a b s p q = rw (p, q)
