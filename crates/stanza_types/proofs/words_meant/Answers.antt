use Rattle.stanza_words.proofs.Laws.{letter_word}
use native.Mathlib.Omega.{arith}
use Rattle.stanza_types.proofs.words_meant.Goals as goal

pub returns : goal.returns
returns c =
    (rw c.in-Some.is at c.kind_by_letter.ensures) c.args.s.now c.args.a c.args.b
    (letter_word c.args.s.now c.args.a c.args.b (omega arith) c.requires.to c.if-b-a-eq1.true)
