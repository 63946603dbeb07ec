use mathlib.Core.List.{[]}
use mathlib.Core.Path.{sym, ap, ◌∙◌}
use Rattle.format.specs.Run.{got}
use Rattle.buffer.proofs.Laws.{wrote_none}
use Rattle.field_read.proofs.Fields.{none_else, none_name, not_name}
use Rattle.field_read.proofs.none_left.Goals as goal

pub returns-then-is_optional : goal.returns-then-is_optional
returns-then-is_optional c =
    λ ns b t l o h e g. (
      [],
      none_name ns _ c.in-Name.m c.in-Name.is l g o (sym c.if-is_optional.true ∙ c.is_optional.ensures) ∙ ap (got []) (sym e),
      wrote_none b _,
      h,
    )

pub returns-else-is_optional : goal.returns-else-is_optional
returns-else-is_optional c =
    λ ns b t l o h e g. none_name ns _ c.in-Name.m c.in-Name.is l g o (sym c.if-is_optional.false ∙ c.is_optional.ensures)

pub returns-in_default : goal.returns-in_default
returns-in_default c = λ ns b t l o h e g. none_else ns c.args.f (not_name c.args.f c.in_default.not-Name) l g o
