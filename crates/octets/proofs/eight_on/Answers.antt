use mathlib.Core.Path.{sym, ap, ◌∙◌}
use Prim.Native.Nat.{◌+◌}
use lib.ListN.{length}
use Rattle.format.specs.Lists.{all_of}
use Rattle.octets.specs.Octets.{in_class}
use Rattle.octets.specs.declared.Class.TheVariants.{NotNewline}
use Rattle.octets.proofs.Blocks.{all_front}
use Rattle.octets.proofs.Slices.{lent}
use native.Mathlib.Omega.{arith}
use Rattle.octets.proofs.eight_on.Goals as goal

pub returns-then-all_in-clause-same_line : goal.returns-then-all_in-clause-same_line
returns-then-all_in-clause-same_line c =
    all_front (in_class NotNewline) c.args.xs.now c.args.i (c.args.i + 8) (length c.args.xs.now) (omega arith)
    (omega arith) (omega arith)
    (ap (all_of (in_class NotNewline)) (sym (lent c.args.xs.now c.args.i (c.args.i + 8) (omega arith))) ∙ sym c.all_in.ensures ∙ c.if-all_in.true)
