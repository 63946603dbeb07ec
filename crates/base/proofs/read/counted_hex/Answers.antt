use Rattle.std.proofs.Common.{refl, subst, [], ◌∷◌, arith}
use Rattle.buffer.specs.Writing.{Values}
use Rattle.format.proofs.Lists.{below_each}
use Rattle.base_group.proofs.Letters.{counted_hex}
use Rattle.base.proofs.read.counted_hex.Goals as goal

pub returns-then-is_alone : goal.returns-then-is_alone
returns-then-is_alone c = rw (← c.is_alone.ensures, c.if-is_alone.true) (0 ∷ [], refl, c.put_octet.ensures)

pub returns : goal.returns
returns c =
    rw (← c.is_alone.ensures, c.if-is_alone.false)
    (subst (λ x. Values c.args.out.now c.counted.new.out c.args.at c.counted.result x)
    (counted_hex c.args.t.now (below_each 256 c.args.t.now (λ k. omega (arith, c.type_inv.t k)))) c.counted.ensures)
