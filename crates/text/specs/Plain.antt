-- The octets of a string that are printed as they are.
use Rattle.std.specs.Prelude.{ℕ, Bool, not, ◌&&◌}
use Rattle.format.specs.Octets.{ascii, in_range, among}

abbrev pub plain_text : ℕ → Bool
plain_text x = in_range 0x20 0x7E x && not (among x (ascii "\"\\"))
