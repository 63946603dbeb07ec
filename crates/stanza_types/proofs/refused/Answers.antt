use mathlib.Core.Path.{refl, sym, ◌∙◌}
use Rattle.std.specs.Prelude.{None}
use Rattle.stanza_types.proofs.Meanings.{malformed, not_of_known, not_allowed}
use Rattle.stanza_types.proofs.refused.Goals as goal

pub returns-then-any : goal.returns-then-any
returns-then-any c =
    malformed (λ qs. None) c.args.s.now c.args.a c.args.b (sym c.any.ensures ∙ c.if-any.true)

pub returns-then-any-2 : goal.returns-then-any-2
returns-then-any-2 c =
    not_of_known (λ qs. None) c.args.s.now c.args.a c.args.b (sym c.any.ensures ∙ c.if-any.false) (sym c.any-2.ensures ∙ c.if-any-2.true)

pub returns : goal.returns
returns c =
    not_allowed (λ qs. None) c.args.s.now c.args.a c.args.b (sym c.any.ensures ∙ c.if-any.false)
    (sym c.any-2.ensures ∙ c.if-any-2.false) (λ qs e. refl)
