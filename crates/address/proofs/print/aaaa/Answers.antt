use Prim.Native.Nat.{◌+◌, ◌*◌}
use mathlib.Core.Path.{refl}
use native.Mathlib.Omega.{arith}
use lib.ListN.{take, length-take}
use Rattle.octets.proofs.Slices.{lent_rest}
use Rattle.buffer.proofs.Laws.{wrote_append, wrote_text}
use Rattle.address.proofs.ZeroRuns.{groups_from, groups_upto, parted_text, colons_short}
use Rattle.address.proofs.print.aaaa.Goals as goal

pub put_octet-b-requires : goal.put_octet-b-requires
put_octet-b-requires c =
    let n = 2 * c.longest-run.result.at in
    omega (arith, c.groups-a.ensures.count, colons_short (take n c.args.p.now), length-take n c.args.p.now)

pub put_octet-c-requires : goal.put_octet-c-requires
put_octet-c-requires c =
    let n = 2 * c.longest-run.result.at in
    omega (arith, c.put_octet-b.ensures.count, c.groups-a.ensures.count, colons_short (take n c.args.p.now), length-take n c.args.p.now)

pub groups-requires-2-clause-place : goal.groups-requires-2-clause-place
groups-requires-2-clause-place c =
    let n = 2 * c.longest-run.result.at in
    omega (arith, c.put_octet-c.ensures.count, c.put_octet-b.ensures.count, c.groups-a.ensures.count, colons_short (take n c.args.p.now), length-take n c.args.p.now)

pub returns : goal.returns
returns c =
    let p = c.args.p.now in
    let at = c.longest-run.result.at in
    let n = at + c.longest-run.result.count in
    let w = wrote_append c.groups-a.ensures (wrote_append c.put_octet-b.ensures (wrote_append c.put_octet-c.ensures c.groups-2.ensures)) in
    wrote_text _ _ (parted_text _ at _ c.longest-run.ensures (omega arith))
    (rw (groups_upto at (2 * at) p refl, lent_rest p (2 * n), groups_from n (2 * n) p refl) at w)
