use Rattle.std.proofs.Common.{ℕ, ◌+◌, ◌-◌, ◌*◌, ◌≤◌, ◌≡◌, List, length, drop}
use Rattle.catalogue.specs.Known.{names_in}
use Rattle.run_print.specs.Printing.{lead}
use Rattle.run_wire.specs.Run.{kinds_of}
use Rattle.buffer.proofs.Laws.{Left}
use Rattle.format.specs.Run.{parts, parts_of, text_of}
use Rattle.stanza_form.specs.Code.{fields_of}
use Rattle.run_print.proofs.put_run.Given as goal

-- The first k fields, from the octets before those that are left, are written; writing the text of the others from `at` on, after a
-- space if neither text is empty, would give the text of the whole run.
abbrev pub invariant-loop-k : goal.invariant-loop-k
invariant-loop-k l =
    (length l.left ≤ length l.p) × (l.at ≤ 4 * (length l.p - length l.left) + 687680 * l.k) ×
    ((ps : List (List ℕ)) × (parts_of (kinds_of l.s (fields_of (drop l.k l.codes))) l.left ≡ parts ps)) × Left l.initial.out 0
    (text_of (names_in l.c) (kinds_of l.s (fields_of l.codes)) l.p) l.out l.at (lead l.at (text_of (names_in l.c) (kinds_of l.s (fields_of (drop l.k l.codes))) l.left))
