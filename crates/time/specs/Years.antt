-- Years of the Gregorian calendar.
use Rattle.std.specs.Prelude.{ℕ, zero, suc, ◌+◌, Bool, cond}
use Rattle.format.specs.Time.{leap, month_days}

-- how many days a year has
abbrev pub year_days : ℕ → ℕ
year_days y = cond (leap y) 366 365

-- how many days of a year come before month m, if it is a leap year and if not
abbrev pub days_in : Bool → ℕ → ℕ
days_in b zero = 0
days_in b (suc m) = days_in b m + month_days b m
