-- Types that are read from text, one after another.
use Rattle.std.specs.Prelude.{ℕ, ◌≤◌, ◌<◌, ◌≡◌, Bool, true, false, List, [], length, take, drop, Option, None, Some, Result, Ok, Err}
use Rattle.format.specs.Lists.{◌>>=◌, cons_both, each_of}
use Rattle.format.specs.Token.{Token, tokens}
use Rattle.format.specs.Rrtype.{type_number}
use Rattle.format.specs.Catalogue.{TypeName, type_number_in}
use Rattle.format.specs.Bitmap.{read_bitmap}
use Rattle.format.specs.Run.{bare_of}
use Rattle.tokens.specs.Tokens.{parted_off}
use Rattle.buffer.specs.declared.lack.Lack.{Lack}
use Rattle.buffer.specs.declared.lack.Lack.TheVariants.{Missing, Fault}
use Rattle.bitmap_picture.specs.Windows.{Holds}
use Rattle.bitmap_picture.specs.declared.Picture.{Picture}

-- the type of a bare token, with the names of types that are known
abbrev pub type_of : List TypeName → Token → Option ℕ
type_of c k = bare_of k >>= type_number_in c

-- the types that a text lists
abbrev pub types_read : List TypeName → List ℕ → Option (List ℕ)
types_read c t = each_of (type_of c) (tokens t)

-- the blocks of these types
abbrev pub bitmap_read : List TypeName → List ℕ → Option (List ℕ)
bitmap_read c t = read_bitmap (type_of c) (tokens t)

-- the types that a text lists, given the first and where its token ends
abbrev pub types_by : List TypeName → List ℕ → Result (ℕ × ℕ) Lack → Option (List ℕ)
types_by c t (Ok (v, e)) = cons_both (Some v) (types_read c (drop e t))
types_by c t (Err Missing) = Some []
types_by c t (Err Fault) = None

-- its number is a type's, and its token has some octets
abbrev pub TypeWithin : List ℕ → Result (ℕ × ℕ) Lack → Type 0
TypeWithin t (Ok (v, e)) = (v < 65536) × (0 < e) × (e ≤ length t)
TypeWithin t (Err k) = Unit {0}

-- `TYPE` and digits that a text begins with, up to a blank or the end
abbrev pub PlainFirst : List ℕ → Option (ℕ × ℕ) → Type 0
PlainFirst t None = Unit {0}
PlainFirst t (Some (v, e)) = (type_number (take e t) ≡ Some v) × (e ≤ length t) × (parted_off (drop e t) ≡ true)

-- a picture that was filled holds the types; or there was a token that is no type
abbrev pub Marks : Picture → Bool → Option (List ℕ) → Type 0
Marks p false o = o ≡ None
Marks p true o = (ts : List ℕ) × (o ≡ Some ts) × Holds p.windows p.top ts
