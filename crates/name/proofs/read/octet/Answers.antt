use Rattle.std.proofs.Common.{◌+◌}
use borrow.Author.Tests.{ne_eqb}
use Rattle.octets.proofs.Slices.{lent_rest}
use Rattle.name.proofs.Names.{one_plain, no_escape_read, one_escape}
use Rattle.name.proofs.read.octet.Goals as goal

pub returns-in_err-x : goal.returns-in_err-x
returns-in_err-x c =
    rw c.from_residual.ensures (no_escape_read c.args.t.now c.args.j c.requires c.if-b-eq92.true (rw (lent_rest c.args.t.now (c.args.j + 1), c.in_err-x.was) at c.read.ensures.items))

pub returns-then-b-eq92 : goal.returns-then-b-eq92
returns-then-b-eq92 c =
    one_escape c.args.t.now c.args.j c.requires c.if-b-eq92.true _ _ (rw (lent_rest c.args.t.now (c.args.j + 1), c.in_ok-x.was) at c.read.ensures.items)
    (rw (lent_rest c.args.t.now (c.args.j + 1), c.in_ok-x.was) at c.read.ensures.within)

pub returns : goal.returns
returns c = one_plain c.args.t.now c.args.j c.requires (ne_eqb _ _ c.if-b-eq92.false)
