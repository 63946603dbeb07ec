-- Fields on the wire: "an absent octet is 8 at its turn, and a rule on a block or value is judged at the last octet it needs".
-- So a field is taken one octet at a time.
use Rattle.std.specs.Prelude.{ℕ, zero, suc, ◌+◌, Bool, true, false, cond, ◌&&◌, List, [], ◌∷◌, length, leb, ltb, eqb}

-- Where a field stands before its next octet. A Bool says whether the input may end there.
pub data Stage : Type 0 where
  any_octet : ℕ → Stage  -- this octet and n more, of any value
  count : ℕ → Stage  -- a count of at least lo, then as many octets
  label_length : Bool → ℕ → Stage  -- a label's length or the closing zero, after t octets of the name
  label_octet : ℕ → ℕ → Stage  -- an octet of a label, n more of it, t octets of the name with them
  to_the_end : Bool → Stage  -- any octets to the end
  string_count : Bool → Stage  -- the count of a string, strings to the end
  string_octet : ℕ → Stage  -- an octet of such a string, and n more
  window : ℕ → Stage  -- a block's window, lo at least
  block_count : ℕ → Stage  -- the count of window w's block
  block_octet : ℕ → ℕ → Stage  -- an octet of window w's block, and n more

-- What an octet does to a field: completes it, breaks its rule, or moves it on.
pub data Move : Type 0 where
  stop : Move
  fault : Move
  go : Stage → Move

-- n octets more, of any value
abbrev pub more_octets : ℕ → Move
more_octets zero = stop
more_octets (suc n) = go (any_octet n)

-- what the next octet does
abbrev pub step : Stage → ℕ → Move
step (any_octet n) x = more_octets n
step (count lo) x = cond (ltb x lo) fault (more_octets x)
-- "64 or more 9; a total over 255 with the closing zero 9": t octets, this one, n + 1 of the label, the zero
step (label_length b t) zero = stop
step (label_length b t) (suc n) = cond (leb (suc n) 63 && leb (t + 1 + suc n + 1) 255) (go (label_octet n (t + 1 + suc n))) fault
step (label_octet zero t) x = go (label_length false t)
step (label_octet (suc n) t) x = go (label_octet n t)
step (to_the_end b) x = go (to_the_end true)
step (string_count b) zero = go (string_count true)
step (string_count b) (suc n) = go (string_octet n)
step (string_octet zero) x = go (string_count true)
step (string_octet (suc n)) x = go (string_octet n)
-- "windows strictly rise", "count 1 to 32", "last octet not zero"
step (window lo) x = cond (ltb x lo) fault (go (block_count x))
step (block_count w) zero = fault
step (block_count w) (suc n) = cond (leb (suc n) 32) (go (block_octet w n)) fault
step (block_octet w zero) zero = fault
step (block_octet w zero) (suc n) = go (window (suc w))
step (block_octet w (suc n)) x = go (block_octet w n)

-- whether the input may end before the next octet
abbrev pub may_end : Stage → Bool
may_end (any_octet n) = false
may_end (count lo) = false
may_end (label_length b t) = b
may_end (label_octet n t) = false
may_end (to_the_end b) = b
may_end (string_count b) = b
may_end (string_octet n) = false
may_end (window lo) = true
may_end (block_count w) = false
may_end (block_octet w n) = false

-- What a field takes: octets are absent (8), one breaks its rule (9), or it takes n.
pub data Taken : Type 0 where
  short : Taken
  bad : Taken
  took : ℕ → Taken

-- with the octet before
abbrev pub one_more : Taken → Taken
one_more short = short
one_more bad = bad
one_more (took n) = took (suc n)

-- what is taken after that
abbrev pub after_move : Move → (Stage → Taken) → Taken
after_move stop f = took 1
after_move fault f = bad
after_move (go t) f = one_more (f t)

-- what a field that stands at s takes from the left
unfoldable pub taken : Stage → List ℕ → Taken
taken s [] = cond (may_end s) (took 0) short
taken s (x ∷ xs) = after_move (step s x) (λ t. taken t xs)

-- the field takes all the octets
abbrev pub takes_all : Taken → List ℕ → Bool
takes_all short xs = false
takes_all bad xs = false
takes_all (took n) xs = eqb n (length xs)
