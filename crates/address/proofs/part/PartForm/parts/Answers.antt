use mathlib.Core.Path.{◌≡◌}
use native.Mathlib.Omega.{arith}
use borrow.Author.Rules.{rules}
use Rattle.buffer.proofs.Values.{begun_piece, begun_fault, begun_rest}
use Rattle.address.specs.Part.{mark_of, piece_of}
use Rattle.address.proofs.Numbers.{piece_short}
use Rattle.address.proofs.Parts.{none_left, part_fault, part_next, part_one, part_few}
use Rattle.address.proofs.part.PartForm.parts.Goals as goal

pub returns-then-left-eq0 : goal.returns-then-left-eq0
returns-then-left-eq0 c =
    let k : c.loop-left.left ≡ 1 = omega arith in
    let e = rw c.mark.ensures at c.in_default.ensures.parts in
    let b = rw k at c.loop-left.invariant.2 in
    begun_rest _ c.piece.result (rw (part_one (mark_of c.args.self) (piece_of c.args.self) c.loop-left.rest.now e) at b) c.piece.ensures

pub returns-else-left-eq0 : goal.returns-else-left-eq0
returns-else-left-eq0 c =
    let e = rw c.mark.ensures at c.in_default.ensures.parts in
    begun_fault c.loop-left.invariant.2 (part_few (mark_of c.args.self) (piece_of c.args.self) c.loop-left.rest.now e c.loop-left.left (λ q. omega arith))

pub returns-in_err-m : goal.returns-in_err-m
returns-in_err-m c =
    let e = rw c.mark.ensures at c.in-Some.ensures.parts in
    let p = rw c.in_err-m.was at c.piece-in-loop-left.ensures in
    rw c.from_residual.ensures
    (begun_fault c.loop-left.invariant.2 (part_fault (mark_of c.args.self) (piece_of c.args.self) c.loop-left.rest.now _ _ c.loop-left.left e p))

pub loop-left-preserved : goal.loop-left-preserved
loop-left-preserved c =
    let e = rw c.mark.ensures at c.in-Some.ensures.parts in
    let (xs, q, w) = rw c.in_ok-m.was at c.piece-in-loop-left.ensures in (
      omega (arith, w.count, piece_short c.args.self _ xs q, c.loop-left.invariant.0),
      search rules,
      begun_piece xs _ c.loop-left.invariant.2 w
          (part_next (mark_of c.args.self) (piece_of c.args.self) c.loop-left.rest.now _ _ c.loop-left.left e xs c.loop-left-test.true q),
    )

pub returns : goal.returns
returns c =
    let k : c.loop-left.left ≡ 0 = omega arith in
    let b = rw k at c.loop-left.invariant.2 in
    begun_fault b (none_left (mark_of c.args.self) (piece_of c.args.self) c.loop-left.rest.now)
