use Prim.Native.Nat.{◌+◌}
use mathlib.Core.Path.{sym, ◌∙◌}
use Rattle.octets.proofs.Slices.{lent_rest}
use Rattle.address.proofs.Marks.{no_mark, at_mark}
use Rattle.address.proofs.part.first_part.Goals as goal

pub returns-in_err-z-clause-parts : goal.returns-in_err-z-clause-parts
returns-in_err-z-clause-parts c =
    rw c.from_residual.ensures (no_mark c.args.mark c.args.t.now (sym c.part_end.ensures ∙ c.in_err-z.was))

pub returns-clause-parts : goal.returns-clause-parts
returns-clause-parts c =
    rw (lent_rest c.args.t.now (c.in_ok-z.z + 1)) (at_mark c.args.mark c.args.t.now c.in_ok-z.z (sym c.part_end.ensures ∙ c.in_ok-z.was))
