use lib.ListN.{drop, length-drop}
use Rattle.tokens.proofs.Scans.{next_two, short}
use native.Mathlib.Omega.{arith}
use borrow.Author.Tests.{eq-eqb, ne_eqb}
use borrow.Author.Rules.{rules}
use Rattle.tokens.proofs.escape_at.Goals.{then-t-j-lt2-via-then-t-j-lt2, then-t-j-lt2-via-else-t-j-lt2+then-t-j-ne92}
use Rattle.tokens.proofs.escape_at.Goals as goal

pub returns-then-t-j-lt2 : goal.returns-then-t-j-lt2
returns-then-t-j-lt2 c =
    elim c.then-t-j-lt2.branch [
      | then-t-j-lt2-via-then-t-j-lt2 w ↦ short (drop c.args.j c.args.t.now) (omega (arith, w.if-t-j-lt2.true, length-drop c.args.j c.args.t.now))
      | then-t-j-lt2-via-else-t-j-lt2+then-t-j-ne92 w ↦ rw (next_two c.args.t.now c.args.j (omega (arith, w.if-t-j-lt2.false)), ne_eqb _ _ w.if-t-j-ne92.true)
    ]

pub returns : goal.returns
returns c = rw (next_two c.args.t.now c.args.j (search rules), eq-eqb _ _ c.if-t-j-ne92.false) c.is_text.ensures
