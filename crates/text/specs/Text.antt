-- Tokens, given their octets.
use Rattle.std.specs.Prelude.{ℕ, Bool, true, false, List}
use Rattle.format.specs.Token.{Token, bare, quoted}

abbrev pub token_of : Bool → List ℕ → Token
token_of true t = quoted t
token_of false t = bare t
