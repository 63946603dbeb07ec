use Rattle.number.proofs.read.field.Goals as goal

pub returns : goal.returns
returns c =
    λ l m. rw (c.from.ensures, c.number.ensures c.args.w l m, c.limit-m.ensures) at c.value.ensures
