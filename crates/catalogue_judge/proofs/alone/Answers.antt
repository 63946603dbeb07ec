use mathlib.Core.Path.{sym, ap, ◌∙◌}
use native.Mathlib.Omega.{arith}
use Rattle.catalogue_judge.specs.Judging.{word_from}
use Rattle.catalogue_judge.proofs.Entries.{alone_word}
use Rattle.catalogue_judge.proofs.alone.Goals as goal

pub returns : goal.returns
returns c =
    c.word.ensures
    ∙ ap (word_from 0) c.spelled-t.ensures
    ∙ alone_word c.args.names.now c.args.w (omega arith) (omega arith) (sym (rw c.spelled-t.ensures at c.is_typed.ensures) ∙ c.if-is_typed.false)
    (sym (rw c.spelled-t.ensures at c.begins_name.ensures) ∙ c.if-not-begins_name.false)
