use mathlib.Core.Path.{ap, ◌∙◌}
use Prim.Native.Nat.{◌+◌}
use lib.ListN.{length}
use native.Mathlib.Omega.{arith}
use Rattle.format.specs.Lists.{span}
use Rattle.tokens.specs.Tokens.{standing}
use Rattle.octets.proofs.Slices.{lent, front_within}
use Rattle.tokens.proofs.Fronts.{part_front, whole_front}
use Rattle.tokens.proofs.skip.Goals as goal

pub overflow_add-j : goal.overflow_add-j
overflow_add-j c =
    let e = c.skip_all.ensures ∙ ap (λ s. length (span (standing c.args.q) s).front) (lent c.args.t.now c.args.i c.near-e.result c.near-e.ensures.at_least) in
    omega (arith, e, front_within (standing c.args.q) c.args.t.now c.args.i c.near-e.result c.near-e.ensures.at_least c.near-e.ensures.within)

pub returns-then-j-e : goal.returns-then-j-e
returns-then-j-e c =
    let e = c.skip_all.ensures ∙ ap (λ s. length (span (standing c.args.q) s).front) (lent c.args.t.now c.args.i c.near-e.result c.near-e.ensures.at_least) in
    ap (λ k. c.args.i + k) e
    ∙ part_front (standing c.args.q) c.args.t.now c.args.i c.near-e.result c.near-e.ensures.at_least c.near-e.ensures.within
    (omega (arith, e))

pub returns : goal.returns
returns c =
    let e = c.skip_all.ensures ∙ ap (λ s. length (span (standing c.args.q) s).front) (lent c.args.t.now c.args.i c.near-e.result c.near-e.ensures.at_least) in
    c.skip_long.ensures
    ∙ whole_front (standing c.args.q) c.args.t.now c.args.i c.near-e.result c.near-e.ensures.at_least c.near-e.ensures.within
    (omega (arith, e))
