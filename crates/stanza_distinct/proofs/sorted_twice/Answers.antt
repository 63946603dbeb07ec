use mathlib.Core.Path.{ap, ◌∙◌}
use Rattle.format.specs.Lists.{twice}
use Rattle.stanza_words.specs.Qualifiers.{same_by}
use Rattle.stanza_distinct.proofs.sorted_twice.Goals as goal

pub returns : goal.returns
returns g c = c.twice.ensures ∙ ap (twice (same_by c.args.ignoring)) c.names-n.ensures.names
