use Prim.Native.Nat.{◌/◌, ◌%◌}
use mathlib.Core.Path.{◌∙◌}
use native.Mathlib.Omega.{arith}
use Rattle.octets.proofs.Slices.{lent}
use Rattle.parts.proofs.Orders.{part_cut}
use Rattle.parts.proofs.named.Goals as goal

pub returns : goal.returns
returns c =
    rw (c.min-a.ensures, c.min-e.ensures) (lent c.args.s.now _ _ (omega arith) ∙ part_cut c.args.s.now (c.args.x / 65536) (c.args.x % 65536))
