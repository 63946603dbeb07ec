-- What the code's classes and answers mean, by the definitions of document 01.
use Rattle.std.specs.Prelude.{ℕ, ◌+◌, Bool, not, List, eqb, length}
use Prim.Native.Char.{code}
use Rattle.std.proofs.Math.Seq.{slice}
use Rattle.format.specs.Lists.{span}
use Rattle.format.specs.Octets.{blank, digit, letter, alphanumeric, name_octet, in_range}
use Rattle.format.specs.Field.{Part}
use Rattle.octets.specs.declared.Class.{Class}
use Rattle.octets.specs.declared.Class.TheVariants.{NotNewline, Blank, Digit, Letter, Alphanumeric, NameOctet, NotBracket, NotComma, FreeText}

-- the octets of each class
abbrev pub in_class : Class → ℕ → Bool
in_class NotNewline x = not (eqb x 10)
in_class Blank x = blank x
in_class Digit x = digit x
in_class Letter x = letter x
in_class Alphanumeric x = alphanumeric x
in_class NameOctet x = name_octet x
in_class NotBracket x = not (eqb x (code "]"))
in_class NotComma x = not (eqb x (code ","))
in_class FreeText x = in_range 0x20 0xFE x

-- the end of the longest run of octets that pass the test, from i on and not past e
abbrev pub front_end : (ℕ → Bool) → List ℕ → ℕ → ℕ → ℕ
front_end f s i e = i + length (span f (slice i e s)).front

-- the end of the line that i is in
abbrev pub line_end : List ℕ → ℕ → ℕ
line_end s i = front_end (in_class NotNewline) s i (length s)

-- the part of a stanza from a to e
abbrev pub part_in : List ℕ → ℕ → ℕ → Part
part_in s a e = record { place = a; octets = slice a e s }
