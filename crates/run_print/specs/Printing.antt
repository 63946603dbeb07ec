-- What printing requires of a run and its octets.
use Rattle.std.specs.Prelude.{ℕ, zero, suc, ◌≤◌, ◌≡◌, List, [], ◌∷◌, length}
use Rattle.format.specs.Run.{parts, parts_of}
use Rattle.stanza_form.specs.declared.FieldDesc.{FieldDesc}
use Rattle.run_wire.specs.Run.{kinds_of, UsableRun}

-- a run of a judged stanza, and octets that it takes
pub record Accepted (s : List ℕ) (fs : List FieldDesc) (xs : List ℕ) : Type 0 where
  pub usable : UsableRun s fs
  pub short : length xs ≤ 65535
  pub taken_all : (ps : List (List ℕ)) × (parts_of (kinds_of s fs) xs ≡ parts ps)

-- what is written for a text after n octets: a space comes first if neither is empty
abbrev pub lead : ℕ → List ℕ → List ℕ
lead zero t = t
lead (suc n) [] = []
lead (suc n) (x ∷ t) = 32 ∷ x ∷ t
