-- The fields of a judged stanza by number, and what a run of them takes.
use Rattle.std.specs.Prelude.{ℕ, zero, suc, ◌+◌, ◌<◌, ◌≤◌, ◌≡◌, true, List, [], ◌∷◌, length, get_or, Result, Ok, Err}
use Rattle.format.specs.Field.{Kind}
use Rattle.format.specs.Run.{refused, parts, parts_of}
use Rattle.format.specs.Demands.{tails_last}
use Rattle.stanza_form.specs.declared.FieldDesc.{FieldDesc}
use Rattle.stanza_form.specs.Fields.{no_field, kind_for, Usable}
use Rattle.buffer.specs.declared.lack.Lack.{Lack}
use Rattle.buffer.specs.declared.lack.Lack.TheVariants.{Missing, Fault}
use Rattle.run_wire.specs.declared.Refusal.{Refusal}

-- the kinds of `m` fields, starting at number k; the first field is number 0
abbrev pub kinds_from : List ℕ → List FieldDesc → ℕ → ℕ → List Kind
kinds_from s fs k zero = []
kinds_from s fs k (suc m) = kind_for s (get_or fs k no_field) ∷ kinds_from s fs (k + 1) m

-- the kinds of the fields of a run
abbrev pub kinds_of : List ℕ → List FieldDesc → List Kind
kinds_of s [] = []
kinds_of s (d ∷ ds) = kind_for s d ∷ kinds_of s ds

-- a run of usable fields
pub record UsableRun (s : List ℕ) (fs : List FieldDesc) : Type 0 where
  pub short : length s ≤ 8192
  pub within : length fs ≤ 64
  pub fields : (k : ℕ) → k < length fs → Usable s (get_or fs k no_field)
  pub tails : tails_last (kinds_of s fs) ≡ true

-- the fields take all the octets; or the refusal's number and place
abbrev pub Checks : List Kind → List ℕ → Result (Unit {0}) Refusal → Type 0
Checks ks xs (Ok _) = (ps : List (List ℕ)) × (parts_of ks xs ≡ parts ps)
Checks ks xs (Err r) = parts_of ks xs ≡ refused r.number r.place

-- the number of the refusal of a field that has no value
abbrev pub number_of : Lack → ℕ
number_of Missing = 8
number_of Fault = 9
