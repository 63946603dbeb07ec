-- R[L]: "blocks of window, count 1 to 32, octets" (RFC 4034). "It is a picture of 256 windows of 32 octets."
use Rattle.std.specs.Prelude.{ℕ, zero, suc, ◌+◌, ◌*◌, cond, List, [], ◌∷◌, ◌++◌, map, length}
use Rattle.std.specs.Prelude.{Option, Some}
use Rattle.format.specs.Lists.{◌>>=◌, each_of, parted}
use Rattle.format.specs.Octets.{ascii, among}
use Rattle.format.specs.Digits.{digits, number}
use Rattle.format.specs.Token.{Token}

-- the set bits, numbered from n
abbrev pub if_set : ℕ → ℕ → List ℕ → List ℕ
if_set zero n l = l
if_set (suc b) n l = n ∷ l

-- the numbers of the bits that are set, from n on
abbrev pub set_bits : ℕ → List ℕ → List ℕ
set_bits n [] = []
set_bits n (b ∷ bs) = if_set b n (set_bits (suc n) bs)

-- Before a window; before window w's count; before the octet whose first bit is type n, with m more of the block after it.
pub data BlockPlace : Type 0 where
  at_window : BlockPlace
  at_count : ℕ → BlockPlace
  at_octet : ℕ → ℕ → BlockPlace

-- before m octets of a block, or after the last
abbrev pub at_octets : ℕ → ℕ → BlockPlace
at_octets n zero = at_window
at_octets n (suc m) = at_octet n m

-- the types of blocks, window by window
abbrev pub types_from : BlockPlace → List ℕ → List ℕ
types_from s [] = []
types_from at_window (w ∷ xs) = types_from (at_count w) xs
types_from (at_count w) (c ∷ xs) = types_from (at_octets (w * 256) c) xs
types_from (at_octet n m) (x ∷ xs) = set_bits n (digits 2 8 x) ++ types_from (at_octets (n + 8) m) xs

-- the types of all blocks
abbrev pub types : List ℕ → List ℕ
types xs = types_from at_window xs

-- "prints rising": `text` writes one type
abbrev pub bitmap_text : (ℕ → List ℕ) → List ℕ → List ℕ
bitmap_text text xs = parted (ascii " ") (map text (types xs))

-- "Text lists types in any order, repeats allowed": bit n of the picture of a list of types
abbrev pub bit_of : List ℕ → ℕ → ℕ
bit_of ts n = cond (among n ts) 1 0

-- k bits of the picture, from n on
abbrev pub bits_of : List ℕ → ℕ → ℕ → List ℕ
bits_of ts n zero = []
bits_of ts n (suc k) = bit_of ts n ∷ bits_of ts (suc n) k

-- k octets of the picture, from bit n on
unfoldable pub octets_from : List ℕ → ℕ → ℕ → List ℕ
octets_from ts n zero = []
octets_from ts n (suc k) = number 2 (bits_of ts n 8) ∷ octets_from ts (n + 8) k

-- window w of the picture
abbrev pub window_octets : List ℕ → ℕ → List ℕ
window_octets ts w = octets_from ts (w * 256) 32

-- "last octet not zero"
abbrev pub before_zeros : ℕ → List ℕ → List ℕ
before_zeros zero [] = []
before_zeros (suc x) [] = suc x ∷ []
before_zeros x (y ∷ l) = x ∷ y ∷ l

-- the octets up to the last that is not zero
abbrev pub without_last_zeros : List ℕ → List ℕ
without_last_zeros [] = []
without_last_zeros (x ∷ xs) = before_zeros x (without_last_zeros xs)

-- a block, or none where no bit is set
abbrev pub block_of : ℕ → List ℕ → List ℕ
block_of w [] = []
block_of w (x ∷ xs) = w ∷ length (x ∷ xs) ∷ x ∷ xs

-- the blocks of k windows from w on
unfoldable pub blocks_from : List ℕ → ℕ → ℕ → List ℕ
blocks_from ts w zero = []
blocks_from ts w (suc k) = block_of w (without_last_zeros (window_octets ts w)) ++ blocks_from ts (suc w) k

-- the blocks of all 256 windows
abbrev pub blocks : List ℕ → List ℕ
blocks ts = blocks_from ts 0 256

-- `value` reads one type
abbrev pub read_bitmap : (Token → Option ℕ) → List Token → Option (List ℕ)
read_bitmap value ts = each_of value ts >>= λ l. Some (blocks l)
