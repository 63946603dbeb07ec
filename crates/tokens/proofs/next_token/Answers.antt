use mathlib.Core.Path.{◌≡◌, refl, ap, ◌∙◌}
use Prim.Native.Nat.{◌+◌, ◌≤◌, ◌<◌}
use lib.ListN.{length, get_or}
use borrow.Author.Rules.{rules}
use borrow.Author.Tests.{ne_eqb}
use native.Mathlib.Omega.{arith}
use Rattle.format.specs.Lists.{span}
use Rattle.format.specs.Octets.{blank}
use Rattle.octets.proofs.Slices.{front_within}
use Rattle.octets.proofs.Blocks.{last_part}
use Rattle.tokens.proofs.Scans.{no_token_lem, quoted_first, bare_first, quoted_within, bare_within}
use Rattle.tokens.proofs.next_token.Goals as goal

pub overflow_add-a : goal.overflow_add-a
overflow_add-a c =
    let e = c.skip_far.ensures ∙ ap (λ s. length (span blank s).front) (last_part c.args.t.now c.args.i c.requires.place) in
    omega (arith, e, front_within blank c.args.t.now c.args.i (length c.args.t.now) c.requires.place (omega arith))

pub returns-in_err-b-clause-tokens : goal.returns-in_err-b-clause-tokens
returns-in_err-b-clause-tokens c =
    let e = ap (λ k. c.args.i + k) (c.skip_far.ensures ∙ ap (λ s. length (span blank s).front) (last_part c.args.t.now c.args.i c.requires.place)) in
    let h : length c.args.t.now ≤ c.args.i + c.skip_far.result = search rules in
    rw c.from_residual.ensures (no_token_lem c.args.t.now c.args.i _ c.requires.place e h)

pub returns-then-b-eq34-clause-tokens : goal.returns-then-b-eq34-clause-tokens
returns-then-b-eq34-clause-tokens c =
    let e = ap (λ k. c.args.i + k) (c.skip_far.ensures ∙ ap (λ s. length (span blank s).front) (last_part c.args.t.now c.args.i c.requires.place)) in
    let h : c.args.i + c.skip_far.result < length c.args.t.now = search rules in
    let b : get_or c.args.t.now (c.args.i + c.skip_far.result) 0 ≡ 34 = search (rules, c.if-b-eq34.true) in
    c.token.ensures.tokens ∙ quoted_first c.args.t.now c.args.i _ c.requires.place e 34 h b refl

pub returns-then-b-eq34-clause-within : goal.returns-then-b-eq34-clause-within
returns-then-b-eq34-clause-within c =
    let e = ap (λ k. c.args.i + k) (c.skip_far.ensures ∙ ap (λ s. length (span blank s).front) (last_part c.args.t.now c.args.i c.requires.place)) in
    quoted_within c.args.t.now c.args.i _ c.requires.place e 34 c.token.result (omega arith) c.token.ensures.from

pub returns-then-b-eq39-clause-tokens : goal.returns-then-b-eq39-clause-tokens
returns-then-b-eq39-clause-tokens c =
    let e = ap (λ k. c.args.i + k) (c.skip_far.ensures ∙ ap (λ s. length (span blank s).front) (last_part c.args.t.now c.args.i c.requires.place)) in
    let h : c.args.i + c.skip_far.result < length c.args.t.now = search rules in
    let b : get_or c.args.t.now (c.args.i + c.skip_far.result) 0 ≡ 39 = search (rules, c.if-b-eq39.true) in
    c.token-then-b-eq39.ensures.tokens ∙ quoted_first c.args.t.now c.args.i _ c.requires.place e 39 h b refl

pub returns-then-b-eq39-clause-within : goal.returns-then-b-eq39-clause-within
returns-then-b-eq39-clause-within c =
    let e = ap (λ k. c.args.i + k) (c.skip_far.ensures ∙ ap (λ s. length (span blank s).front) (last_part c.args.t.now c.args.i c.requires.place)) in
    quoted_within c.args.t.now c.args.i _ c.requires.place e 39 c.token-then-b-eq39.result (omega arith) c.token-then-b-eq39.ensures.from

pub returns-clause-tokens : goal.returns-clause-tokens
returns-clause-tokens c =
    let e = ap (λ k. c.args.i + k) (c.skip_far.ensures ∙ ap (λ s. length (span blank s).front) (last_part c.args.t.now c.args.i c.requires.place)) in
    let h : c.args.i + c.skip_far.result < length c.args.t.now = search rules in
    let b : c.in_ok-b.field-0.now ≡ get_or c.args.t.now (c.args.i + c.skip_far.result) 0 = search rules in
    c.token-2.ensures.tokens
    ∙ bare_first c.args.t.now c.args.i _ c.requires.place e h (rw (← b, ne_eqb _ _ c.if-b-eq34.false, ne_eqb _ _ c.if-b-eq39.false))

pub returns-clause-within : goal.returns-clause-within
returns-clause-within c =
    let e = ap (λ k. c.args.i + k) (c.skip_far.ensures ∙ ap (λ s. length (span blank s).front) (last_part c.args.t.now c.args.i c.requires.place)) in
    let h : c.args.i + c.skip_far.result < length c.args.t.now = search rules in
    bare_within c.args.t.now c.args.i _ c.requires.place e c.token-2.result h c.token-2.ensures.from
