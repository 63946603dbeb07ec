use Rattle.stanza_types.proofs.Meanings.{no_words_lem}
use Rattle.stanza_types.proofs.Meanings.{words_twice, words_once}
use mathlib.Core.Path.{sym, ◌∙◌}
use Rattle.stanza_types.proofs.listed_meant.Goals as goal

pub returns-then-any : goal.returns-then-any
returns-then-any c =
    c.refused.ensures
    ∙ no_words_lem c.args.w c.args.s.now c.args.a c.args.b (sym c.any.ensures ∙ c.if-any.true)

pub returns-then-twice : goal.returns-then-twice
returns-then-twice c =
    words_twice c.args.w c.args.s.now c.args.a c.args.b (sym c.any.ensures ∙ c.if-any.false)
    (sym c.twice.ensures ∙ c.if-twice.true)

pub returns : goal.returns
returns c =
    rw c.made.ensures
    (words_once c.args.w c.args.s.now c.args.a c.args.b (sym c.any.ensures ∙ c.if-any.false)
    (sym c.twice.ensures ∙ c.if-twice.false))
