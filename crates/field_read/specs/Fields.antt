-- What the code's answer for a field means, by the definitions of document 01.
use Rattle.std.specs.Prelude.{ℕ, ◌<◌, ◌≤◌, ◌≡◌, List, length, drop, Option, None, Some, Result, Ok, Err}
use Rattle.format.specs.Token.{tokens}
use Rattle.format.specs.Run.{Got, no_token, bad_token, got}
use Rattle.buffer.specs.Writing.{Wrote}
use Rattle.buffer.specs.declared.lack.Lack.{Lack}
use Rattle.buffer.specs.declared.lack.Lack.TheVariants.{Missing, Fault}

-- a reader's answer, with the tokens from j on left
abbrev pub placed_at : Option ℕ → ℕ → Result (ℕ × ℕ) Lack
placed_at None j = Err Fault
placed_at (Some m) j = Ok (m, j)

abbrev pub got_at : Result ℕ Lack → ℕ → Result (ℕ × ℕ) Lack
got_at (Err w) j = Err w
got_at (Ok m) j = Ok (m, j)

-- no token was there; or a rule is broken; or the field's octets stand in the buffer, and the tokens from j on are left
abbrev pub Gives : List ℕ → List ℕ → ℕ → List ℕ → Result (ℕ × ℕ) Lack → Got → Type 0
Gives before after place t (Err Missing) g = g ≡ no_token
Gives before after place t (Err Fault) g = g ≡ bad_token
Gives before after place t (Ok (r, j)) g = (xs : List ℕ) × (g ≡ got xs (tokens (drop j t))) × Wrote before after place r xs × (j ≤ length t)

-- a token was taken; or there was none, and nothing is stored
abbrev pub Onward : List ℕ → List ℕ → ℕ → Result (ℕ × ℕ) Lack → Type 0
Onward before after i (Err Missing) = after ≡ before
Onward before after i (Err Fault) = Unit {0}
Onward before after i (Ok (r, j)) = i < j
