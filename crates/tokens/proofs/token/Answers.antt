use mathlib.Core.Path.{sym, ◌∙◌}
use Rattle.tokens.proofs.Scans.{kept_none, kept_run, front_stops, kept_escape, escape_within, token_ended, token_from}
use native.Mathlib.Omega.{arith}
use Rattle.tokens.proofs.token.Goals as goal

pub loop-j-init : goal.loop-j-init
loop-j-init c =
    (kept_run _ _ _ _ _ c.skip-j.ensures (kept_none _ _ _ c.requires.place), front_stops _ _ _ _ c.requires.place c.skip-j.ensures)

pub skip_after-j-requires : goal.skip_after-j-requires
skip_after-j-requires c =
    escape_within c.args.t.now c.loop-j.j (sym c.escape_at.ensures ∙ c.loop-j-test.true)

pub loop-j-smaller : goal.loop-j-smaller
loop-j-smaller c =
    omega (arith, c.skip_after-j.ensures, escape_within c.args.t.now c.loop-j.j (sym c.escape_at.ensures ∙ c.loop-j-test.true))

pub loop-j-preserved : goal.loop-j-preserved
loop-j-preserved c =
    let k = kept_escape _ _ _ _ c.loop-j.invariant.0 c.requires.quote (sym c.escape_at.ensures ∙ c.loop-j-test.true) in
    (kept_run _ _ _ _ _ c.skip_after-j.ensures k, front_stops _ _ _ _ k.within c.skip_after-j.ensures)

pub returns-clause-tokens : goal.returns-clause-tokens
returns-clause-tokens c =
    rw c.ended.ensures (token_ended _ _ _ _ c.requires.quote c.loop-j.invariant.0 c.loop-j.invariant.1 (sym c.escape_at.ensures ∙ c.loop-j-test.false))

pub returns-clause-from : goal.returns-clause-from
returns-clause-from c = rw c.ended.ensures (token_from _ _ _ _ c.loop-j.invariant.0)
