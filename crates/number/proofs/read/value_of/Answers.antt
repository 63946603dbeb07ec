use mathlib.Core.Path.{◌∙◌}
use borrow.Author.Rules.{rules}
use Rattle.number.proofs.Symbols.{with_name, no_value, found_value}
use Rattle.number.proofs.read.value_of.Goals as goal

pub returns-then-a-b : goal.returns-then-a-b
returns-then-a-b c = λ w l m. no_value _ _ _ w l m c.args.t.now c.if-a-b.true

pub returns-in_err-v : goal.returns-in_err-v
returns-in_err-v c =
    λ w l m. c.from_residual.ensures
    ∙ found_value _ _ _ w l m c.args.t.now c.if-a-b.false _ (c.in_err-v.ensures.passes (with_name c.args.t.now) (λ t v r called. search rules))

pub returns : goal.returns
returns c =
    λ w l m. found_value _ _ _ w l m c.args.t.now c.if-a-b.false _ (c.in_ok-v.ensures.passes (with_name c.args.t.now) (λ t v r called. search rules))
