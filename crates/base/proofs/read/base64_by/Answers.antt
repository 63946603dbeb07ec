use Rattle.std.proofs.Common.{◌+◌, sym, ◌∙◌, arith}
use Rattle.std.proofs.lemmas.List.{take_rest}
use Rattle.format.proofs.Lists.{below_each}
use Rattle.base_group.proofs.GroupDigits.{last_small}
use Rattle.base.proofs.Base64Rest.{base64_octets, base64_unpadded}
use Rattle.base.proofs.read.base64_by.Goals as goal

pub finish-requires-clause-small : goal.finish-requires-clause-small
finish-requires-clause-small c = last_small _ _ _ _ _ _ _ _ _ _ c.groups-f.ensures.whole _ _ _ c.groups-f.ensures.last

pub returns-then-padded : goal.returns-then-padded
returns-then-padded c =
    let d = c.groups-f.result in
    let p = rw (take_rest c.args.t.now (d.from + d.last.taken)) at c.padded.ensures in
    base64_octets c.args.numbers.now c.requires.alphabet c.args.t.now (below_each 256 c.args.t.now (λ k. omega (arith, c.type_inv.t k))) _ _ _ _ _ c.groups-f.ensures.whole
    _ _ _ c.groups-f.ensures.last c.groups-f.ensures.few c.groups-f.ensures.stops (sym p ∙ c.if-padded.true) _ _ c.finish.ensures

pub returns : goal.returns
returns c =
    let d = c.groups-f.result in
    let p = rw (take_rest c.args.t.now (d.from + d.last.taken)) at c.padded.ensures in
    base64_unpadded c.args.numbers.now c.requires.alphabet c.args.t.now (below_each 256 c.args.t.now (λ k. omega (arith, c.type_inv.t k))) _ _ _ _ _ c.groups-f.ensures.whole
    _ _ _ c.groups-f.ensures.last c.groups-f.ensures.few c.groups-f.ensures.stops (sym p ∙ c.if-padded.false)
