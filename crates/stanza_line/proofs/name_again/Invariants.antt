use mathlib.Core.Path.{◌≡◌}
use lib.ListN.{drop}
use Rattle.stanza_line.specs.Verdict.{named_among}
use Rattle.stanza_line.proofs.name_again.Given as goal

-- One of the names is the text exactly if one of those that are left is.
abbrev pub invariant-loop-x : goal.invariant-loop-x
invariant-loop-x l = named_among l.s (drop l.x-index l.names) l.t ≡ named_among l.s l.names l.t
