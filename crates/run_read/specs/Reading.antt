-- What the code's answer for a run of fields means, by the definitions of document 01.
use Rattle.std.specs.Prelude.{ℕ, ◌<◌, ◌≤◌, ◌≡◌, List, length, Result, Ok, Err}
use Rattle.format.specs.Lists.{flat}
use Rattle.format.specs.Run.{Parts, refused, parts, max_rdata}
use Rattle.buffer.specs.Writing.{Wrote}
use Rattle.run_wire.specs.declared.Refusal.{Refusal}

-- a count of at most 65,535 is that of the run's octets, which stand in the buffer; a higher count says that there are more octets than that
pub record Stands (before after : List ℕ) (count : ℕ) (xs : List ℕ) : Type 0 where
  pub whole : count ≤ max_rdata → Wrote before after 0 count xs
  pub over : max_rdata < count → max_rdata < length xs

-- the octets are the run's, as said; or the refusal's number and place
abbrev pub Reads : List ℕ → List ℕ → Result ℕ Refusal → Parts → Type 0
Reads before after (Err r) p = p ≡ refused r.number r.place
Reads before after (Ok m) p = (ps : List (List ℕ)) × (p ≡ parts ps) × Stands before after m (flat ps)
