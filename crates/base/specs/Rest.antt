-- What the code's answer for all tokens that are left means, by the definitions of document 01.
use Rattle.std.specs.Prelude.{ℕ, ◌≡◌, List, [], Result, Ok, Err}
use Rattle.format.specs.Run.{Got, no_token, bad_token, got}
use Rattle.buffer.specs.Writing.{Wrote}
use Rattle.buffer.specs.declared.lack.Lack.{Lack}
use Rattle.buffer.specs.declared.lack.Lack.TheVariants.{Missing, Fault}

-- no token is left; or one has a fault; or the field's octets, from all tokens, stand in the buffer
abbrev pub Gets : List ℕ → List ℕ → ℕ → Result ℕ Lack → Got → Type 0
Gets before after place (Err Missing) g = g ≡ no_token
Gets before after place (Err Fault) g = g ≡ bad_token
Gets before after place (Ok r) g = (xs : List ℕ) × (g ≡ got xs []) × Wrote before after place r xs
