use Rattle.std.proofs.Common.{subst, arith}
use Rattle.buffer.specs.Writing.{Values}
use Rattle.format.proofs.Lists.{below_each}
use Rattle.base_group.proofs.Letters.{counted_base32}
use Rattle.base.proofs.read.counted_base32.Goals as goal

pub returns : goal.returns
returns c =
    subst (λ x. Values c.args.out.now c.counted.new.out c.args.at c.counted.result x)
    (counted_base32 c.args.t.now (below_each 256 c.args.t.now (λ k. omega (arith, c.type_inv.t k)))) c.counted.ensures
