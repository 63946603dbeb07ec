-- What a writer and a reader leave.
use Rattle.std.specs.Prelude.{ℕ, ◌+◌, ◌≡◌, List, ◌++◌, length}
use Rattle.std.specs.Prelude.{Option, None, Some}
use Rattle.std.proofs.lemmas.List.Edits.{sets}
use Rattle.format.specs.Lists.{◌>>=◌}

-- The text stands in the buffer from the place on as far as there is room, every other octet is as it was, and the result is the place after the whole text.
pub record Wrote (before after : List ℕ) (place result : ℕ) (text : List ℕ) : Type 0 where
  pub octets : after ≡ sets before place text
  pub count : result ≡ place + length text

-- The value's octets stand in the buffer in the same way, up to the place r; or there is no value, and nothing is said of the buffer.
abbrev pub Values : List ℕ → List ℕ → ℕ → Option ℕ → Option (List ℕ) → Type 0
Values before after place None o = o ≡ None
Values before after place (Some r) o = (xs : List ℕ) × (o ≡ Some xs) × Wrote before after place r xs

-- the value with these octets before its own
abbrev pub after : List ℕ → Option (List ℕ) → Option (List ℕ)
after xs o = o >>= λ ys. Some (xs ++ ys)
