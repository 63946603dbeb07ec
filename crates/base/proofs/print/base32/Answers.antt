use Rattle.std.proofs.Common.{◌≡◌, ◌*◌, ◌/◌, ◌-◌, take, drop, [], length, refl, arith, length-take, length-drop}
use Rattle.std.proofs.lemmas.List.{take_rest}
use Rattle.format.specs.Digits.{upper_digit}
use Rattle.base.proofs.Texts.{grouped32, pieces_front, placed, all_wrote}
use Rattle.base.proofs.print.base32.Goals as goal

pub rest-requires : goal.rest-requires
rest-requires c =
    let e = pieces_front 5 (length c.args.p.now / 5) c.fitting-c.result c.args.p.now _ c.as_chunks.ensures.front (omega arith) in
    let v = rw e at c.groups-m.ensures in
    let q = placed 5 5 32 [] grouped32 _ (take (5 * c.fitting-c.result) c.args.p.now) c.fitting-c.result (omega (arith, length-take (5 * c.fitting-c.result) c.args.p.now)) v in
    let l : length (take (length c.args.p.now - 5 * c.fitting-c.result) (drop (5 * c.fitting-c.result) c.args.p.now)) ≡ length c.args.p.now - 5 * c.fitting-c.result = rw (take_rest c.args.p.now (5 * c.fitting-c.result)) (length-drop (5 * c.fitting-c.result) c.args.p.now) in
    (omega arith, (grouped32, (omega arith, (omega arith, λ f. omega arith))))

pub returns : goal.returns
returns c =
    let e = pieces_front 5 (length c.args.p.now / 5) c.fitting-c.result c.args.p.now _ c.as_chunks.ensures.front (omega arith) in
    let v = rw e at c.groups-m.ensures in
    all_wrote 5 5 32 upper_digit c.args.p.now grouped32 refl c.fitting-c.result (omega arith) v
    (rw (take_rest c.args.p.now (5 * c.fitting-c.result)) at c.rest.ensures)
