use Rattle.std.proofs.Common.{◌≤◌, ◌≡◌, List, ℕ, length, drop}
use Rattle.catalogue.specs.Known.{names_in}
use Rattle.format.specs.Token.{tokens}
use Rattle.format.specs.Run.{read_field}
use Rattle.run_wire.specs.Run.{kinds_of}
use Rattle.run_read.specs.Reading.{Stands}
use Rattle.run_read.proofs.Runs.{Ahead}
use Rattle.stanza_form.specs.Code.{fields_of}
use Rattle.run_read.proofs.read_run.Given as goal

-- The octets of the first k fields stand up to n, or are over 65,535; they, and what the other fields make of the
-- tokens from i on, tell what the run makes of all the tokens.
abbrev pub invariant-loop-k : goal.invariant-loop-k
invariant-loop-k l =
    (l.i ≤ length l.t) × (l.n ≤ 65536)
    × ((xs : List ℕ) × Stands l.initial.out l.out l.n xs
    × Ahead (λ j ts. read_field (names_in l.u.c) j l.u.origin.now ts) (kinds_of l.u.s.now (fields_of l.codes)) (tokens l.t)
    (kinds_of l.u.s.now (fields_of (drop l.k l.codes))) (tokens (drop l.i l.t)) l.k xs)
