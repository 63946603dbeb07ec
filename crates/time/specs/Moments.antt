-- Moments that are read from text.
use Rattle.std.specs.Prelude.{ℕ, ◌+◌, ◌*◌, ◌-◌, ◌^◌, Bool, false, cond, ◌&&◌, List, eqb, length}
use Rattle.std.specs.Prelude.{Option}
use Rattle.format.specs.Lists.{◌>>=◌, each_of}
use Rattle.format.specs.Octets.{in_range}
use Rattle.format.specs.Digits.{digit_value}
use Rattle.format.specs.Number.{decimal_of, below}
use Rattle.format.specs.Time.{month_length, moment_of}

-- a day of the calendar, from 1970 to 2106
abbrev pub real_day : ℕ → ℕ → ℕ → Bool
real_day year month day = cond (in_range 1970 2106 year && in_range 1 12 month) (in_range 1 (month_length ((year - 1970) * 12 + (month - 1))) day) false

-- the seconds to the moment of 14 digits
abbrev pub moment_read : List ℕ → Option ℕ
moment_read t = each_of (digit_value 10) t >>= moment_of

-- the seconds that a text gives
abbrev pub seconds_read : List ℕ → Option ℕ
seconds_read t = below (2 ^ 32) (cond (eqb (length t) 14) (moment_read t) (decimal_of t))
