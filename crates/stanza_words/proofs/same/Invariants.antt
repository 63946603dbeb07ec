use mathlib.Core.Path.{◌≡◌}
use lib.ListN.{drop}
use Rattle.stanza_words.specs.Qualifiers.{same_by}
use Rattle.stanza_words.proofs.same.Given as goal

-- The two texts are the same exactly if their rests from i on are.
abbrev pub invariant-loop-i : goal.invariant-loop-i
invariant-loop-i l = same_by l.ignoring (drop l.i l.s) (drop l.i l.t) ≡ same_by l.ignoring l.s l.t
