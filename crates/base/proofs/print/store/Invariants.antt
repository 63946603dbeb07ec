use Rattle.std.proofs.Common.{◌≡◌}
use Rattle.std.proofs.lemmas.List.Edits.{sets}
use Rattle.format.specs.Digits.{digits}
use Rattle.base.specs.Alphabet.{chars}
use Rattle.base.proofs.print.store.Given as goal

-- Storing the i lowest digits of x as well, from `at` on, would give all k digits of v.
abbrev pub invariant-loop-i : goal.invariant-loop-i
invariant-loop-i g l = sets l.out l.at (chars l.alphabet (digits g.row.N l.i l.x)) ≡ sets l.initial.out l.at (chars l.alphabet (digits g.row.N l.k l.v))
