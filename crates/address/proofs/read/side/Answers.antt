use mathlib.Core.Path.{◌≡◌}
use mathlib.Core.List.{[]}
use Prim.Native.Nat.{◌<◌}
use lib.ListN.{length}
use borrow.Author.Rules.{rules}
use Rattle.buffer.proofs.Laws.{wrote_none}
use Rattle.address.proofs.Groups.{side_some, side_none}
use Rattle.address.proofs.read.side.Goals as goal

pub returns-then-is_empty : goal.returns-then-is_empty
returns-then-is_empty c =
    let e : length c.args.t.now ≡ 0 = search rules in
    ([], side_none c.args.tail c.args.t.now e, wrote_none _ _)

pub returns : goal.returns
returns c =
    let h : 0 < length c.args.t.now = search rules in
    rw (side_some c.args.tail c.args.t.now h) at c.groups.ensures
