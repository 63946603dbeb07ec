use Rattle.std.proofs.Common.{◌≡◌, ◌*◌, ◌/◌, ◌-◌, take, drop, [], length, refl, arith, length-take, length-drop}
use Rattle.std.proofs.lemmas.List.{take_rest}
use Rattle.format.specs.Base.{base64_char}
use Rattle.base.proofs.Texts.{grouped64, pieces_front, placed, near, padded, all_wrote}
use Rattle.base.proofs.print.base64.Goals as goal

pub rest-r-requires : goal.rest-r-requires
rest-r-requires c =
    let e = pieces_front 3 (length c.args.p.now / 3) c.fitting-c.result c.args.p.now _ c.as_chunks.ensures.front (omega arith) in
    let v = rw e at c.groups-m.ensures in
    let q = placed 6 3 64 [] grouped64 _ (take (3 * c.fitting-c.result) c.args.p.now) c.fitting-c.result (omega (arith, length-take (3 * c.fitting-c.result) c.args.p.now)) v in
    let l : length (take (length c.args.p.now - 3 * c.fitting-c.result) (drop (3 * c.fitting-c.result) c.args.p.now)) ≡ length c.args.p.now - 3 * c.fitting-c.result = rw (take_rest c.args.p.now (3 * c.fitting-c.result)) (length-drop (3 * c.fitting-c.result) c.args.p.now) in
    (omega arith, (grouped64, (omega arith, (omega arith, λ f. omega arith))))

pub put_all-requires-clause-at : goal.put_all-requires-clause-at
put_all-requires-clause-at c =
    let e = pieces_front 3 (length c.args.p.now / 3) c.fitting-c.result c.args.p.now _ c.as_chunks.ensures.front (omega arith) in
    let v = rw e at c.groups-m.ensures in
    let u = near 6 3 64 [] grouped64 _ (take (3 * c.fitting-c.result) c.args.p.now) (omega (arith, length-take (3 * c.fitting-c.result) c.args.p.now)) v in
    let r = near 6 3 64 [] grouped64 _ (drop (3 * c.fitting-c.result) c.args.p.now) (omega (arith, length-drop (3 * c.fitting-c.result) c.args.p.now)) (rw (take_rest c.args.p.now (3 * c.fitting-c.result)) at c.rest-r.ensures) in
    omega arith

pub returns : goal.returns
returns c =
    let e = pieces_front 3 (length c.args.p.now / 3) c.fitting-c.result c.args.p.now _ c.as_chunks.ensures.front (omega arith) in
    let v = rw e at c.groups-m.ensures in
    padded c.args.p.now
    (all_wrote 6 3 64 base64_char c.args.p.now grouped64 refl c.fitting-c.result (omega arith) v
    (rw (take_rest c.args.p.now (3 * c.fitting-c.result)) at c.rest-r.ensures)) c.put_all.ensures
