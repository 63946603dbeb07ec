use mathlib.Core.Path.{sym, ◌∙◌}
use Rattle.stanza_types.proofs.Meanings.{no_symbols, symbols_twice, symbols_once}
use Rattle.stanza_types.proofs.symbols_meant.Goals as goal

pub returns-then-plain_symbols : goal.returns-then-plain_symbols
returns-then-plain_symbols c =
    symbols_once c.args.w c.args.s.now c.args.a c.args.b c.requires.some
    (rw (← c.limit-m.ensures) (c.plain_symbols.ensures.plain c.if-plain_symbols.true)) (c.plain_symbols.ensures.once c.if-plain_symbols.true)

pub returns-then-any : goal.returns-then-any
returns-then-any c =
    c.refused.ensures
    ∙ no_symbols c.args.w c.args.s.now c.args.a c.args.b
    (rw (← c.limit-m.ensures) (sym c.any.ensures ∙ c.if-any.true))

pub returns-then-twice : goal.returns-then-twice
returns-then-twice c =
    symbols_twice c.args.w c.args.s.now c.args.a c.args.b
    (rw (← c.limit-m.ensures) (sym c.any.ensures ∙ c.if-any.false)) (sym c.twice.ensures ∙ c.if-twice.true)

pub returns : goal.returns
returns c =
    symbols_once c.args.w c.args.s.now c.args.a c.args.b c.requires.some
    (rw (← c.limit-m.ensures) (sym c.any.ensures ∙ c.if-any.false)) (sym c.twice.ensures ∙ c.if-twice.false)
