use Rattle.stanza_words.proofs.Laws.{unequal}
use Rattle.stanza_words.proofs.same_long.Goals as goal

pub returns-else-s-t : goal.returns-else-s-t
returns-else-s-t c = unequal c.args.ignoring c.args.s.now c.args.t.now c.if-s-t.false
