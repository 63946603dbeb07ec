use mathlib.Core.Path.{◌∙◌}
use Rattle.stanza_grammar.proofs.Laws.{begun, colon_named, unnamed}
use Rattle.stanza_grammar.proofs.field_name.Goals as goal

pub returns-then-not-begins-clause-value : goal.returns-then-not-begins-clause-value
returns-then-not-begins-clause-value c =
    unnamed c.args.s.now c.args.i c.args.end
    (begun c.args.s.now c.args.i c.args.end 58 _ _ c.requires.from c.begins.ensures c.if-not-begins.true)

pub returns-in_err-e-clause-value : goal.returns-in_err-e-clause-value
returns-in_err-e-clause-value c =
    rw c.from_residual.ensures
    ((rw c.in_err-e.was at c.name_end.ensures.value)
    ∙ colon_named c.args.s.now c.args.i c.args.end c.requires.to
    (begun c.args.s.now c.args.i c.args.end 58 _ _ c.requires.from c.begins.ensures c.if-not-begins.false))

pub returns-clause-value : goal.returns-clause-value
returns-clause-value c =
    (rw c.in_ok-e.was at c.name_end.ensures.value)
    ∙ colon_named c.args.s.now c.args.i c.args.end c.requires.to
    (begun c.args.s.now c.args.i c.args.end 58 _ _ c.requires.from c.begins.ensures c.if-not-begins.false)
