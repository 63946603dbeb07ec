use native.Mathlib.Omega.{arith}
use borrow.Author.Rules.{rules}
use Rattle.buffer.proofs.Values.{begun_piece, begun_fault, begun_rest}
use Rattle.address.specs.declared.part.PartForm.TheVariants.{Group}
use Rattle.address.proofs.Numbers.{piece_short}
use Rattle.address.proofs.Groups.{groups_last, group_fault, group_on}
use Rattle.address.proofs.read.groups.Goals as goal

pub returns-in_err-m : goal.returns-in_err-m
returns-in_err-m c =
    rw c.from_residual.ensures
    (begun_fault c.loop-part.invariant.2 (group_fault c.args.tail c.loop-part.rest.now _ c.in-Some.next.now c.in-Some.ensures.parts (rw c.in_err-m.was at c.piece.ensures)))

pub loop-part-preserved : goal.loop-part-preserved
loop-part-preserved c =
    let (xs, q, w) = rw c.in_ok-m.was at c.piece.ensures in (
      omega (arith, w.count, piece_short Group _ xs q, c.in-Some.ensures.shorter, c.loop-part.invariant.0),
      search rules,
      begun_piece xs _ c.loop-part.invariant.2 w (group_on c.args.tail c.loop-part.rest.now _ c.in-Some.next.now c.in-Some.ensures.parts xs q),
    )

pub returns : goal.returns
returns c =
    begun_rest _ c.last_part.result
    (rw (groups_last c.args.tail c.loop-part.rest.now c.in_default.ensures.parts) at c.loop-part.invariant.2) c.last_part.ensures
