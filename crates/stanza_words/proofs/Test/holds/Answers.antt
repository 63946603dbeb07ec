use lib.Seq.{slice, length-slice}
use mathlib.Core.Path.{sym, ◌∙◌}
use Rattle.stanza_words.proofs.Laws.{letter_word, long_word}
use Rattle.stanza_words.proofs.Test.holds.Goals as goal

pub returns-then-z-a-eq1 : goal.returns-then-z-a-eq1
returns-then-z-a-eq1 c =
    rw (
      ← c.find.ensures,
      c.in-Some-Word.is,
      c.in-Some-Word.field-0-is,
      letter_word c.args.s.now c.args.a c.args.z c.requires.from c.requires.to c.if-z-a-eq1.true,
    ) c.holds_letter.ensures

pub returns-else-z-a-eq1 : goal.returns-else-z-a-eq1
returns-else-z-a-eq1 c =
    rw (← c.find.ensures, c.in-Some-Word.is, c.in-Some-Word.field-0-is)
    (c.holds_long.ensures
    ∙ long_word c.args.self (slice c.args.a c.args.z c.args.s.now)
    (λ e. c.if-z-a-eq1.false (sym (length-slice c.args.a c.args.z c.args.s.now c.requires.to) ∙ e)))
