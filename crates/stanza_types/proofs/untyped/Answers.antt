use mathlib.Core.Path.{sym, ◌∙◌}
use Rattle.stanza_types.proofs.Meanings.{no_type_malformed, no_type}
use Rattle.stanza_types.proofs.untyped.Goals as goal

pub returns-then-any : goal.returns-then-any
returns-then-any c = no_type_malformed c.args.s.now c.args.a c.args.b (sym c.any.ensures ∙ c.if-any.true)

pub returns : goal.returns
returns c = no_type c.args.s.now c.args.a c.args.b (sym c.any.ensures ∙ c.if-any.false)
