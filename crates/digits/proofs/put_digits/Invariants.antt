use Rattle.std.proofs.Common.{◌≡◌, ◌+◌, map}
use Rattle.std.proofs.lemmas.List.Edits.{sets}
use Rattle.format.specs.Digits.{digits}
use Rattle.digits.proofs.put_digits.Given as goal

-- The last w - k digits are stored; writing x in the k digits before them would give the whole number.
abbrev pub invariant-loop-k : goal.invariant-loop-k
invariant-loop-k g l = sets l.out l.at (map (λ d. g.row.ZERO + d) (digits g.row.B l.k l.x)) ≡ sets l.initial.out l.at (map (λ d. g.row.ZERO + d) (digits g.row.B l.w l.v))
