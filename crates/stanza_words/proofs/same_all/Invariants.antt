use mathlib.Core.Path.{◌≡◌}
use mathlib.Core.Bool.{◌&&◌}
use lib.ListN.{length, drop}
use Rattle.stanza_words.specs.Qualifiers.{same_by}
use Rattle.stanza_words.proofs.same_all.Given as goal

-- The two texts are the same exactly if they are so up to this pair, which ok says, and their rests are.
abbrev pub invariant-loop-x : goal.invariant-loop-x
invariant-loop-x l =
    l.ok && same_by l.ignoring (drop (length l.yielded) l.s) (drop (length l.yielded) l.t) ≡ same_by l.ignoring l.s l.t
