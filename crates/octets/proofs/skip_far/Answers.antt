use mathlib.Core.Path.{◌≡◌, sym, ap, ◌∙◌}
use Prim.Native.Nat.{◌+◌, ◌-◌}
use lib.ListN.{length}
use lib.Seq.{slice, take_all}
use Rattle.format.specs.Lists.{all_of, span}
use Rattle.octets.specs.Octets.{in_class}
use Rattle.octets.proofs.Blocks.{all_front, place_there, place_passes, last_part}
use Rattle.octets.proofs.Slices.{front_within}
use native.Mathlib.Omega.{arith}
use Rattle.octets.proofs.skip_far.Goals as goal

pub loop-j-preserved : goal.loop-j-preserved
loop-j-preserved c =
    let f = in_class c.args.c in
    let a = all_of f (slice c.loop-j.j (c.loop-j.j + 16) c.args.xs.now) in
    let b = sym c.goes_on.ensures ∙ c.loop-j-test.true in
    let n = place_there 16 (length c.args.xs.now - c.loop-j.j) a b in (
      omega (arith, n),
      all_front f c.args.xs.now c.loop-j.j (c.loop-j.j + 16) (length c.args.xs.now) (omega arith)
          (omega (arith, n)) (omega arith) (place_passes 16 (length c.args.xs.now - c.loop-j.j) a b)
          ∙ c.loop-j.invariant.1,
    )

pub overflow_add-result : goal.overflow_add-result
overflow_add-result c =
    let f = in_class c.args.c in
    let e = c.skip-2.ensures ∙ ap (λ t. length (span f t).front) (last_part c.args.xs.now c.loop-j.j c.loop-j.invariant.0) in
    omega (arith, e, front_within f c.args.xs.now c.loop-j.j (length c.args.xs.now) c.loop-j.invariant.0 (omega arith))

pub returns : goal.returns
returns c =
    let f = in_class c.args.c in
    let e = c.skip-2.ensures ∙ ap (λ t. length (span f t).front) (last_part c.args.xs.now c.loop-j.j c.loop-j.invariant.0) in
    let h : c.loop-j.j + length (span f (slice c.loop-j.j (length c.args.xs.now) c.args.xs.now)).front ≡ 0 + length (span f (slice 0 (length c.args.xs.now) c.args.xs.now)).front = c.loop-j.invariant.1 in
    let w : length (span f (slice 0 (length c.args.xs.now) c.args.xs.now)).front ≡ length (span f c.args.xs.now).front = ap (λ t. length (span f t).front) (take_all (length c.args.xs.now) c.args.xs.now (omega arith)) in
    omega (arith, e, h, w)
