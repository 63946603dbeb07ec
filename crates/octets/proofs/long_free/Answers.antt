use mathlib.Core.Path.{sym, ap, ◌∙◌}
use Prim.Native.Nat.{◌+◌, ◌-◌}
use lib.ListN.{length}
use lib.Seq.{slice, take_all}
use borrow.Author.Tests.{le-ltb}
use Rattle.format.specs.Lists.{all_of}
use Rattle.octets.specs.Octets.{in_class}
use Rattle.octets.specs.declared.Class.TheVariants.{FreeText}
use Rattle.octets.proofs.Blocks.{all_whole, all_over, all_off, place_there, place_passes, place_broken, last_part}
use native.Mathlib.Omega.{arith}
use Rattle.octets.proofs.long_free.Goals as goal

pub loop-j-preserved : goal.loop-j-preserved
loop-j-preserved c =
    let a = all_of (in_class FreeText) (slice c.loop-j.j (c.loop-j.j + 16) c.args.xs.now) in
    let b = sym c.goes_on.ensures ∙ c.loop-j-test.true in
    let n = place_there 16 (length c.args.xs.now - c.loop-j.j) a b in (
      omega (arith, n),
      all_whole (in_class FreeText) c.args.xs.now 0 c.loop-j.j (c.loop-j.j + 16) (omega arith) (omega arith) (omega (arith, n))
          c.loop-j.invariant.1 (place_passes 16 (length c.args.xs.now - c.loop-j.j) a b),
    )

pub returns-then-xs-j-lt16 : goal.returns-then-xs-j-lt16
returns-then-xs-j-lt16 c =
    let xs = c.args.xs.now in
    let f = in_class FreeText in
    c.all_in.ensures ∙ ap (all_of f) (last_part xs (length xs - 16) (omega arith))
    ∙ all_over f xs 0 c.loop-j.j (length xs - 16) (length xs) (omega arith) (omega arith) c.loop-j.invariant.0 (omega arith) c.loop-j.invariant.1
    ∙ ap (all_of f) (take_all (length xs) xs (omega arith))

pub returns-else-xs-j-lt16 : goal.returns-else-xs-j-lt16
returns-else-xs-j-lt16 c =
    let xs = c.args.xs.now in
    let f = in_class FreeText in
    le-ltb _ _ c.if-xs-j-lt16.false
    ∙ all_off f xs 0 c.loop-j.j (c.loop-j.j + 16) (length xs) (omega arith) (omega arith) (omega arith) (omega arith)
    (place_broken 16 (length xs - c.loop-j.j) _ (omega arith) (sym c.goes_on.ensures ∙ c.loop-j-test.false))
    ∙ ap (all_of f) (take_all (length xs) xs (omega arith))
