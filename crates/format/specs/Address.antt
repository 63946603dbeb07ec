-- A, AA and AAAA: four octets; four and eight groups of two octets.
use Rattle.std.specs.Prelude.{ℕ, zero, suc, ◌+◌, ◌*◌, ◌-◌, max, Bool, true, false, cond, ◌&&◌, List, [], ◌∷◌, ◌++◌, map, length, drop, replicate, leb, ltb, eqb}
use Prim.Native.Char.{code}
use Rattle.std.specs.Prelude.{Option, None, Some}
use Rattle.format.specs.Lists.{◌>>=◌, provided, or_else, cons_both, each_of, exactly, null, flat_map, parted}
use Rattle.format.specs.Octets.{ascii, in_range, same_octets, split_on}
use Rattle.format.specs.Digits.{digits, number, without_zeros, lower_digit, digit_value}
use Rattle.format.specs.Number.{decimal, decimal_of, below}

-- "four numbers 0 to 255 without leading zeros"
abbrev pub dotted_text : List ℕ → List ℕ
dotted_text xs = parted (ascii ".") (map decimal xs)

-- it reads so, and prints so
abbrev pub small_number : List ℕ → Option ℕ
small_number t = below 256 (decimal_of t) >>= λ v. provided (same_octets (decimal v) t) v

-- exactly four, with dots between
abbrev pub read_a : List ℕ → Option (List ℕ)
read_a t = exactly 4 (each_of small_number (split_on (code ".") t))

-- groups of two octets
abbrev pub groups : List ℕ → List ℕ
groups [] = []
groups (x ∷ []) = []
groups (x ∷ y ∷ xs) = (x * 256 + y) ∷ groups xs

-- and back
abbrev pub group_octets : List ℕ → List ℕ
group_octets gs = flat_map (digits 256 2) gs

-- "prints lower case, no leading zeros"
abbrev pub group_text : ℕ → List ℕ
group_text g = map lower_digit (without_zeros (digits 16 4 g))

-- groups with colons between
abbrev pub colons : List ℕ → List ℕ
colons gs = parted (ascii ":") (map group_text gs)

-- "groups of 1 to 4 hex digits"
abbrev pub group_of : List ℕ → Option ℕ
group_of t = cond (in_range 1 4 (length t)) (each_of (digit_value 16) t >>= λ ds. Some (number 16 ds)) None

-- "exactly four colon-parted groups"
abbrev pub read_aa : List ℕ → Option (List ℕ)
read_aa t = exactly 4 (each_of group_of (split_on (code ":") t)) >>= λ gs. Some (group_octets gs)

-- "prints RFC 5952 style, always in hex": the first of the longest runs of zero groups, two at least, is written `::`
abbrev pub zeros_at : List ℕ → ℕ
zeros_at [] = 0
zeros_at (zero ∷ gs) = suc (zeros_at gs)
zeros_at (suc g ∷ gs) = 0

-- the length of the longest run of zero groups
unfoldable pub longest_zeros : List ℕ → ℕ
longest_zeros [] = 0
longest_zeros (g ∷ gs) = max (zeros_at (g ∷ gs)) (longest_zeros gs)

-- the groups before the first run of m zeros, and after it
abbrev pub before_run : ℕ → List ℕ → List ℕ
before_run m [] = []
before_run m (g ∷ gs) = cond (eqb (zeros_at (g ∷ gs)) m) [] (g ∷ before_run m gs)

abbrev pub after_run : ℕ → List ℕ → List ℕ
after_run m [] = []
after_run m (g ∷ gs) = cond (eqb (zeros_at (g ∷ gs)) m) (drop m (g ∷ gs)) (after_run m gs)

-- the groups, with that run as `::`
abbrev pub aaaa_text : List ℕ → List ℕ
aaaa_text gs = cond (ltb (longest_zeros gs) 2) (colons gs) (colons (before_run (longest_zeros gs) gs) ++ (ascii "::" ++ colons (after_run (longest_zeros gs) gs)))

-- "a dotted tail by A's rule included": the last text may be dotted where the Bool says so
abbrev pub last_groups : Bool → List ℕ → Option (List ℕ)
last_groups dotted t = or_else (group_of t >>= λ g. Some (g ∷ [])) (cond dotted (read_a t >>= λ xs. Some (groups xs)) None)

-- groups with colons between; the last may be dotted
unfoldable pub groups_of : Bool → List (List ℕ) → Option (List ℕ)
groups_of dotted [] = Some []
groups_of dotted (t ∷ []) = last_groups dotted t
groups_of dotted (t ∷ u ∷ ts) = cons_both (group_of t) (groups_of dotted (u ∷ ts))

-- the groups on one side of `::`, perhaps none
abbrev pub side_of : Bool → List ℕ → Option (List ℕ)
side_of dotted t = cond (null t) (Some []) (groups_of dotted (split_on (code ":") t))

-- A text without `::`, or what stands before and after the first one.
pub data Doubled : Type 0 where
  single : Doubled
  double : List ℕ → List ℕ → Doubled

-- x before what stands before it
abbrev pub into_before : ℕ → Doubled → Doubled
into_before x single = single
into_before x (double s t) = double (x ∷ s) t

-- where the first `::` stands
abbrev pub at_double_colon : List ℕ → Doubled
at_double_colon [] = single
at_double_colon (x ∷ []) = single
at_double_colon (x ∷ y ∷ xs) = let later = into_before x (at_double_colon (y ∷ xs)) in cond (eqb x (code ":") && eqb y (code ":")) (double [] xs) later

-- "RFC 4291 forms, .. `::` for one or more groups"
abbrev pub eight_groups : List ℕ → Doubled → Option (List ℕ)
eight_groups t single = exactly 8 (groups_of true (split_on (code ":") t))
eight_groups t (double s u) = do
  gs ← side_of false s
  hs ← side_of true u
  provided (leb (length gs + length hs) 7) (gs ++ replicate (8 - (length gs + length hs)) 0 ++ hs)

-- eight groups, as octets
abbrev pub read_aaaa : List ℕ → Option (List ℕ)
read_aaaa t = eight_groups t (at_double_colon t) >>= λ gs. Some (group_octets gs)
