use mathlib.Core.Path.{sym, ap, ◌∙◌}
use Rattle.format.specs.Types.{type_rows, takes_of}
use Rattle.stanza_form.proofs.Words.{one_letter, longer_only}
use Rattle.stanza_form.proofs.type_of.Goals as goal

pub returns-then-t-eq1 : goal.returns-then-t-eq1
returns-then-t-eq1 c = c.letter_type.ensures ∙ ap (takes_of type_rows) (sym (one_letter c.args.t.now c.if-t-eq1.true))

pub returns : goal.returns
returns c = c.word_type.ensures ∙ sym (longer_only type_rows c.args.t.now c.if-t-eq1.false)
