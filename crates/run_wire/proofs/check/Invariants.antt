use Rattle.std.proofs.Common.{ℕ, ◌≤◌, List, length, drop}
use Rattle.run_wire.specs.Run.{kinds_of}
use Rattle.run_wire.proofs.Laws.{Ahead}
use Rattle.stanza_form.specs.Code.{fields_of}
use Rattle.run_wire.proofs.check.Given as goal

-- The first k fields take the octets before `at`; what the others make of the rest tells what the run makes of all.
abbrev pub invariant-loop-k : goal.invariant-loop-k
invariant-loop-k l =
    (l.at ≤ length l.p) × ((s : List ℕ) → Ahead (kinds_of s (fields_of l.codes)) l.p (kinds_of s (fields_of (drop l.k l.codes))) (drop l.at l.p) l.k)
