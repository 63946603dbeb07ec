use mathlib.Core.Path.{sym, ◌∙◌}
use Prim.Native.Nat.{◌+◌, ◌-◌}
use lib.ListN.{length}
use lib.Seq.{slice}
use Rattle.format.specs.Lists.{all_of}
use Rattle.octets.specs.Octets.{in_class}
use Rattle.octets.specs.declared.Class.TheVariants.{NotNewline}
use Rattle.octets.proofs.Blocks.{all_front, place_there, place_passes}
use native.Mathlib.Omega.{arith}
use Rattle.octets.proofs.line_end.Goals as goal

pub loop-j-preserved : goal.loop-j-preserved
loop-j-preserved c =
    let a = all_of (in_class NotNewline) (slice c.loop-j.j (c.loop-j.j + 16) c.args.xs.now) in
    let b = sym c.goes_on.ensures ∙ c.loop-j-test.true in
    let n = place_there 16 (length c.args.xs.now - c.loop-j.j) a b in (
      omega (arith, n),
      all_front (in_class NotNewline) c.args.xs.now c.loop-j.j (c.loop-j.j + 16) (length c.args.xs.now) (omega arith)
          (omega (arith, n)) (omega arith) (place_passes 16 (length c.args.xs.now - c.loop-j.j) a b)
          ∙ c.loop-j.invariant.1,
    )
