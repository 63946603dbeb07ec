-- T: "4 octets, unsigned seconds since 1970-01-01". Months are counted from January 1970, from 0.
use Rattle.std.specs.Prelude.{ℕ, zero, suc, ◌+◌, ◌*◌, ◌-◌, ◌/◌, ◌%◌, ◌^◌, Bool, not, cond, ◌&&◌, ◌||◌, List, [], ◌∷◌, ◌++◌, length, take, drop, leb, ltb, eqb}
use Rattle.std.specs.Prelude.{Option, None, Some}
use Rattle.format.specs.Lists.{◌>>=◌, each_of}
use Rattle.format.specs.Octets.{in_range, among}
use Rattle.format.specs.Digits.{digits, number, digit_value}
use Rattle.format.specs.Number.{fixed_decimal, decimal_of, below}

-- the Gregorian calendar
abbrev pub leap : ℕ → Bool
leap y = eqb (y % 4) 0 && (not (eqb (y % 100) 0) || eqb (y % 400) 0)

-- the days of month m of a year, from 0
abbrev pub month_days : Bool → ℕ → ℕ
month_days leap_year m = cond (eqb m 1) (cond leap_year 29 28) (cond (among m (3 ∷ 5 ∷ 8 ∷ 10 ∷ [])) 30 31)

-- the days of month k
abbrev pub month_length : ℕ → ℕ
month_length k = month_days (leap (1970 + k / 12)) (k % 12)

-- the days before month k
abbrev pub days_before : ℕ → ℕ
days_before zero = 0
days_before (suc k) = days_before k + month_length k

-- A day: its month, and its number in the month from 0.
pub record Day : Type 0 where
  pub month : ℕ
  pub day : ℕ

-- day d, counted from the first of month k, searched in as many months as the first number says
abbrev pub day_from : ℕ → ℕ → ℕ → Day
day_from zero k d = record { month = k; day = d }
day_from (suc n) k d = let later = day_from n (suc k) (d - month_length k) in cond (ltb d (month_length k)) (record { month = k; day = d }) later

-- to December 2106: 1,644 months
abbrev pub day_of : ℕ → Day
day_of d = day_from 1644 0 d

-- "Prints 14 digits": YYYYMMDDHHmmSS
abbrev pub moment_text : Day → ℕ → List ℕ
moment_text r s =
    fixed_decimal 4 (1970 + r.month / 12) ++ fixed_decimal 2 (r.month % 12 + 1) ++ fixed_decimal 2 (r.day + 1) ++
    fixed_decimal 2 (s / 3600) ++ fixed_decimal 2 (s / 60 % 60) ++ fixed_decimal 2 (s % 60)

-- the moment that many seconds after the first
abbrev pub time_text : ℕ → List ℕ
time_text n = moment_text (day_of (n / 86400)) (n % 86400)

-- "a real Gregorian moment in range, second 0 to 59": its seconds
abbrev pub moment : ℕ → ℕ → ℕ → ℕ → ℕ → ℕ → Option ℕ
moment year month day hour minute second =
    cond (in_range 1970 2106 year && in_range 1 12 month)
    (cond (in_range 1 (month_length ((year - 1970) * 12 + (month - 1))) day && leb hour 23 && leb minute 59 && leb second 59)
    (Some ((days_before ((year - 1970) * 12 + (month - 1)) + (day - 1)) * 86400 + hour * 3600 + minute * 60 + second))
    None) None

-- the number of n digits from digit i on
abbrev pub digits_at : ℕ → ℕ → List ℕ → ℕ
digits_at i n ds = number 10 (take n (drop i ds))

-- YYYYMMDDHHmmSS
abbrev pub moment_of : List ℕ → Option ℕ
moment_of ds = moment (digits_at 0 4 ds) (digits_at 4 2 ds) (digits_at 6 2 ds) (digits_at 8 2 ds) (digits_at 10 2 ds) (digits_at 12 2 ds)

-- "exactly 14 digits .. or 1 to 10 digits of seconds"
abbrev pub read_time : List ℕ → Option (List ℕ)
read_time t = below (2 ^ 32) (cond (eqb (length t) 14) (each_of (digit_value 10) t >>= moment_of) (decimal_of t)) >>= λ v. Some (digits 256 4 v)
