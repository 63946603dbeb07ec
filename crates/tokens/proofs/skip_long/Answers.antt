use mathlib.Core.Path.{sym, ap, ◌∙◌}
use Prim.Native.Nat.{◌+◌}
use lib.ListN.{length}
use native.Mathlib.Omega.{arith}
use Rattle.format.specs.Lists.{span}
use Rattle.tokens.specs.Tokens.{standing}
use Rattle.octets.proofs.Slices.{front_within}
use Rattle.octets.proofs.Blocks.{all_front, block_there, block_passes, last_part}
use Rattle.tokens.proofs.skip_long.Goals as goal

pub loop-j-preserved : goal.loop-j-preserved
loop-j-preserved c =
    let b = sym c.block_stands.ensures ∙ c.loop-j-test.true in
    let n = block_there 64 (standing c.args.q) c.args.t.now c.loop-j.j c.loop-j.invariant.0 b in (
      n,
      all_front (standing c.args.q) c.args.t.now c.loop-j.j (c.loop-j.j + 64) (length c.args.t.now) (omega arith) n (omega arith)
          (block_passes 64 (standing c.args.q) c.args.t.now c.loop-j.j c.loop-j.invariant.0 b)
          ∙ c.loop-j.invariant.1,
    )

pub overflow_add-result : goal.overflow_add-result
overflow_add-result c =
    let e = c.skip_all.ensures ∙ ap (λ s. length (span (standing c.args.q) s).front) (last_part c.args.t.now c.loop-j.j c.loop-j.invariant.0) in
    omega (arith, e, front_within (standing c.args.q) c.args.t.now c.loop-j.j (length c.args.t.now) c.loop-j.invariant.0 (omega arith))

pub returns : goal.returns
returns c =
    let e = c.skip_all.ensures ∙ ap (λ s. length (span (standing c.args.q) s).front) (last_part c.args.t.now c.loop-j.j c.loop-j.invariant.0) in
    ap (λ k. c.loop-j.j + k) e ∙ c.loop-j.invariant.1
