use Prim.Native.Nat.{◌+◌, ◌-◌, ◌*◌, ◌≤◌}
use mathlib.Core.Path.{◌≡◌, refl, ◌∙◌}
use mathlib.Core.List.{◌∷◌}
use native.Mathlib.Omega.{arith}
use lib.ListN.{drop}
use Rattle.format.specs.Address.{groups, zeros_at}
use Rattle.octets.proofs.Slices.{lent_rest}
use Rattle.address.proofs.ZeroRuns.{no_group, group_at, zero_before, other_before, run_none, run_next}
use Rattle.address.proofs.print.longest.Goals as goal
use Rattle.address.proofs.print.longest.Goals.{then-two-eq0, else-two-eq0}

pub loop-k-init : goal.loop-k-init
loop-k-init c = rw (no_group c.args.p.now c.requires) (omega arith, omega arith, refl, run_none)

pub loop-k-preserved : goal.loop-k-preserved
loop-k-preserved c =
    let k = c.loop-k.k in
    let j = c.loop-k.k - 1 in
    let gs = groups c.args.p.now in
    let n : k ≡ j + 1 = omega arith in
    let v = rw (lent_rest c.args.p.now (2 * j)) at c.two.ensures.value in
    let e = rw (← v) at (group_at j k c.args.p.now n (omega arith)) in
    let w : (c.if-two-eq0.z + j ≤ 8) × (c.if-two-eq0.z ≡ zeros_at (c.two.result ∷ drop k gs)) =
    elim c.if-two-eq0.branch [
      | then-two-eq0 w ↦ (omega arith, w.z-is ∙ zero_before c.two.result c.loop-k.z (drop k gs) w.if-two-eq0.true c.loop-k.invariant.2)
      | else-two-eq0 w ↦ (omega arith, w.z-is ∙ other_before c.two.result (drop k gs) w.if-two-eq0.false)
    ] in
    let r = run_next c.two.result c.if-two-eq0.z (drop k gs) c.loop-k.run.count w.1 j k c.loop-k.run.at n c.loop-k.invariant.0 c.loop-k.invariant.3
    _ _ c.longer-run.ensures.place c.longer-run.ensures.count in
    rw e (r.0, w.0, w.1, r.1)

pub returns : goal.returns
returns c =
    let e : c.loop-k.k ≡ 0 = omega arith in
    let m : c.loop-k.run.at - 0 ≡ c.loop-k.run.at = omega arith in
    rw (e, m) at c.loop-k.invariant.3
