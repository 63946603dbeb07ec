use Rattle.std.proofs.Common.{arith}
use Rattle.format.proofs.Lists.{below_each}
use Rattle.base.proofs.HexRest.{hex_fault, hex_missing, hex_got}
use Rattle.base.proofs.read.hex_rest.Goals as goal

pub returns-in_default : goal.returns-in_default
returns-in_default c = hex_fault c.args.t.now (below_each 256 c.args.t.now (λ k. omega (arith, c.type_inv.t k))) c.in_default.ensures

pub returns-then-m-at : goal.returns-then-m-at
returns-then-m-at c = hex_missing c.args.t.now (below_each 256 c.args.t.now (λ k. omega (arith, c.type_inv.t k))) _ _ _ _ c.in-Some.ensures c.if-m-at.true

pub returns : goal.returns
returns c = hex_got c.args.t.now (below_each 256 c.args.t.now (λ k. omega (arith, c.type_inv.t k))) _ _ _ _ c.in-Some.ensures c.if-m-at.false
