use mathlib.Core.Path.{ap, ◌∙◌}
use Prim.Native.Nat.{◌+◌}
use borrow.Author.Tests.{le-leb}
use Rattle.format.specs.Lists.{all_of}
use Rattle.octets.specs.Octets.{in_class}
use Rattle.octets.proofs.Slices.{lent}
use native.Mathlib.Omega.{arith}
use Rattle.octets.proofs.goes_on.Goals as goal

pub returns-then-xs-i-ge16 : goal.returns-then-xs-i-ge16
returns-then-xs-i-ge16 c =
    rw (le-leb _ _ c.if-xs-i-ge16.true)
    (c.all_in.ensures ∙ ap (all_of (in_class c.args.c)) (lent c.args.xs.now c.args.i (c.args.i + 16) (omega arith)))
