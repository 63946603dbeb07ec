use Rattle.number.proofs.read.number.Goals as goal

pub returns-in-None : goal.returns-in-None
returns-in-None c =
    λ w l m. rw (← c.decimal_below.ensures, c.in-None.is) (c.value_of.ensures w l m)
