use Rattle.stanza_judge.proofs.Outlines.{Judging}
use Rattle.stanza_judge.specs.Stanza.{begun}
use Rattle.stanza_form.specs.Code.{fields_of}
use Rattle.stanza_form.proofs.Codes.{without_texts}
use Rattle.stanza_form.specs.declared.FieldDesc.{FieldDesc}
use Rattle.stanza_line.specs.declared.HeaderDesc.{HeaderDesc}
use mathlib.Core.Path.{◌≡◌}
use mathlib.Core.List.{List}
use lib.ListN.{length}
use Prim.Native.Nat.{◌+◌, ◌-◌}
use Rattle.stanza_judge.proofs.judged_lines.Given as goal

-- Nothing is refused so far, and judging the lines from `at` on gives the verdict on all lines. The codes are those of the fields
-- found so far.
abbrev pub invariant-loop-at : goal.invariant-loop-at
invariant-loop-at l =
    (h : HeaderDesc) × (fs : List FieldDesc)
    × Judging l.in_file (begun l.in_file l.s l.first l.before) l.s h fs l.names l.n l.seen l.at l.line
    × (fields_of l.codes ≡ without_texts fs)

abbrev pub decreases-loop-at : goal.decreases-loop-at
decreases-loop-at l =
    length l.s + 1 - l.at
