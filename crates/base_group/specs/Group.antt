-- Digits of w bits, read by an alphabet that gives the number of each octet, and the octets that they make.
use Rattle.std.specs.Prelude.{ℕ, zero, suc, ◌+◌, ◌*◌, ◌/◌, ◌^◌, ◌≤◌, ◌<◌, ◌≡◌, Bool, cond, false, List, [], ◌∷◌, ◌++◌, length, get_or, drop, ltb, eqb}
use Rattle.std.specs.Prelude.{Option, None, Some}
use Rattle.format.specs.Lists.{◌>>=◌, provided, each_of}
use Rattle.format.specs.Octets.{Below, blank}
use Rattle.format.specs.Digits.{number, digit_value}
use Rattle.format.specs.Text.{counted}
use Rattle.format.specs.Base.{from_digits, base64_value}
use Rattle.buffer.specs.Writing.{Wrote, after}

-- the digit that an octet stands for, if it is below the base
abbrev pub char_value : List ℕ → ℕ → ℕ → Option ℕ
char_value a base x = provided (ltb (get_or a x 0) base) (get_or a x 0)

-- an octet that is left out
abbrev pub left_out : List ℕ → ℕ → ℕ → Bool
left_out a skip x = eqb (get_or a x 0) skip

-- the elements that do not pass
abbrev pub without : (ℕ → Bool) → List ℕ → List ℕ
without f [] = []
without f (x ∷ xs) = cond (f x) (without f xs) (x ∷ without f xs)

-- the digits of a text, without what is left out
abbrev pub digits_by : List ℕ → ℕ → ℕ → List ℕ → Option (List ℕ)
digits_by a skip base s = each_of (char_value a base) (without (left_out a skip) s)

-- the octets of those digits, which have w bits
abbrev pub octets_by : List ℕ → ℕ → ℕ → List ℕ → Option (List ℕ)
octets_by a skip w s = digits_by a skip (2 ^ w) s >>= from_digits w

-- digits of w bits, of which k are whole octets
pub record Grouping (w k : ℕ) : Type 0 where
  pub some_bits : 0 < w
  pub few_bits : w ≤ 6
  pub some_digits : 0 < k
  pub few_digits : k ≤ 8
  pub less : w * k / 8 ≤ k
  pub whole : w * k ≡ 8 * (w * k / 8)

-- the octet x is no digit and is not left out
pub record Stops (a : List ℕ) (skip base x : ℕ) : Type 0 where
  pub kept : left_out a skip x ≡ false
  pub high : base ≤ get_or a x 0

-- the first n octets hold `count` digits, which make `num`; `chars` are these octets without what is left out
pub record Taken (a : List ℕ) (skip base : ℕ) (t : List ℕ) (n count num : ℕ) : Type 0 where
  pub chars : List ℕ
  pub ds : List ℕ
  pub within : n ≤ length t
  pub from : count ≤ n
  pub below : Below base ds
  pub long : length ds ≡ count
  pub is : number base ds ≡ num
  pub parts : without (left_out a skip) t ≡ chars ++ without (left_out a skip) (drop n t)
  pub read : each_of (char_value a base) chars ≡ Some ds

-- The first n octets hold `many` whole groups of k digits, and the octets of these digits stand from `at` to `end`.
pub record Groups (before after' : List ℕ) (at : ℕ) (a : List ℕ) (skip w k : ℕ) (t : List ℕ) (n end : ℕ) : Type 0 where
  pub xs : List ℕ
  pub chars : List ℕ
  pub all : List ℕ
  pub many : ℕ
  pub wrote : Wrote before after' at end xs
  pub within : n ≤ length t
  pub bound : end ≤ at + n
  pub parts : without (left_out a skip) t ≡ chars ++ without (left_out a skip) (drop n t)
  pub read : each_of (char_value a (2 ^ w)) chars ≡ Some all
  pub counts : length all ≡ k * many
  pub same : (r : List ℕ) → from_digits w (all ++ r) ≡ after xs (from_digits w r)

-- the values of f at n numbers, starting at x
abbrev pub numbered : (ℕ → ℕ) → ℕ → ℕ → List ℕ
numbered f x zero = []
numbered f x (suc n) = f x ∷ numbered f (x + 1) n

-- a number, or d if there is none
abbrev pub or_number : Option ℕ → ℕ → ℕ
or_number None d = d
or_number (Some x) d = x

-- 0 to 9, then letters in either case; 64 for a blank, 99 for any other octet
abbrev pub letter_number : ℕ → ℕ
letter_number x = cond (blank x) 64 (or_number (digit_value 32 x) 99)

-- the table of these numbers for all octets
unfoldable pub letters : List ℕ
letters = numbered letter_number 0 256

-- RFC 4648's base 64 alphabet; 64 for a blank, 99 for any other octet
abbrev pub base64_number : ℕ → ℕ
base64_number x = cond (blank x) 64 (or_number (base64_value x) 99)

-- the table of these numbers for all octets
unfoldable pub base64_numbers : List ℕ
base64_numbers = numbered base64_number 0 256

-- the octets of the digits in one token, after their count
abbrev pub counted_by : ℕ → List ℕ → Option (List ℕ)
counted_by w s = octets_by letters 100 w s >>= counted 1
