use Rattle.std.proofs.Common.{drop, length-drop, length-take, ◌+◌, sym, ◌∙◌, arith}
use Rattle.std.proofs.lemmas.List.{take_rest}
use Rattle.format.specs.Octets.{digit}
use Rattle.octets.proofs.Slices.{span_length}
use Rattle.bitmap.proofs.read.last_type.Goals as goal

pub overflow_add-e : goal.overflow_add-e
overflow_add-e c =
    let n = rw (take_rest c.args.t.now 4) at c.skip-e.ensures in
    record { fits = omega (arith, n, span_length digit (drop 4 c.args.t.now), length-drop 4 c.args.t.now) }

pub slice_bounds-plain-end : goal.slice_bounds-plain-end
slice_bounds-plain-end c =
    let n = rw (take_rest c.args.t.now 4) at c.skip-e.ensures in
    omega (arith, n, span_length digit (drop 4 c.args.t.now), length-drop 4 c.args.t.now, length-take (4 + c.skip-e.result) c.args.t.now)

pub returns : goal.returns
returns c =
    let n = rw (take_rest c.args.t.now 4) at c.skip-e.ensures in (
      sym c.in_ok-v.ensures,
      omega (arith, n, span_length digit (drop 4 c.args.t.now), length-drop 4 c.args.t.now),
      sym c.parted_at.ensures ∙ c.if-not-parted_at.false,
    )
