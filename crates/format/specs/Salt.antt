-- Request 1 of document 02, "Records with no salt", sentence by sentence.
use Rattle.std.specs.Prelude.{ℕ, ◌≡◌, false, List, [], ◌∷◌, ◌++◌}
use Rattle.format.specs.Lists.{null}
use Rattle.format.specs.Octets.{ascii}
use Rattle.format.specs.Wire.{taken, took, bad}
use Rattle.format.specs.Field.{b32, hexc, start}
use Rattle.format.specs.Token.{Token, bare}
use Rattle.format.specs.Catalogue.{TypeName}
use Rattle.format.specs.Run.{shown, got, bad_token, read_field}

-- X[C] and B32, whatever octets or tokens come after, and whatever names of types are known.
pub record NoSalt : Type 0 where
  -- "count 0 is accepted"
  pub accepted : (xs : List ℕ) → taken (start hexc) (0 ∷ xs) ≡ took 1
  -- "prints `-`"
  pub prints : (c : List TypeName) → shown c hexc (0 ∷ []) ≡ ascii "-"
  -- "and `-` reads back as count 0"
  pub reads : (c : List TypeName) (o : List ℕ) (ts : List Token) → read_field c hexc o (bare (ascii "-") ∷ ts) ≡ got (0 ∷ []) ts
  -- "a `-` next to digits stays 9", and so does one next to anything else
  pub beside : (c : List TypeName) (o : List ℕ) (ts : List Token) (a b : List ℕ) → null (a ++ b) ≡ false → read_field c hexc o (bare (a ++ ascii "-" ++ b) ∷ ts) ≡ bad_token
  -- "B32 keeps its minimum of 1."
  pub base32 : (xs : List ℕ) → taken (start b32) (0 ∷ xs) ≡ bad
  -- "`-` is not an empty text": X[C] has none
  pub some_text : (c : List TypeName) (p : List ℕ) → null (shown c hexc p) ≡ false
