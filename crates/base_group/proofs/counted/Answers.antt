use Rattle.std.proofs.Common.{ℕ, ◌≡◌, sym, Result, Ok, Err, None, Some, arith}
use Rattle.std.specs.Result.{OkIff, result_ok}
use Rattle.buffer.proofs.Values.{too_short, too_long, counted_value}
use Rattle.base_group.proofs.counted.Goals as goal

fits : {E : Type 0} (r : Result ℕ E) (P : Type 0) (v c : ℕ) → OkIff r P v → Some c ≡ result_ok r → P × (c ≡ v)
fits (Ok x) P v c (p, e) q = (p, cc)
fits (Err e) P v c h q = cc

large : {E : Type 0} (r : Result ℕ E) (P : Type 0) (v : ℕ) → OkIff r P v → result_ok r ≡ None → P → ⊥
large (Ok x) P v h q = cc
large (Err e) P v h q = h

pub returns : goal.returns
returns g c =
    let f = fits c.try_from.result _ _ c.in_ok-count.count c.try_from.ensures c.in_ok-count.ensures.value in
    counted_value 1 _ _ c.args.at c.in_ok-m.m _ c.in_ok-m.ensures _ (omega (arith, f)) (omega (arith, f)) (rw f.1 at c.put.ensures)

pub returns-then-count-eq0 : goal.returns-then-count-eq0
returns-then-count-eq0 g c =
    let f = fits c.try_from.result _ _ c.in_ok-count.count c.try_from.ensures c.in_ok-count.ensures.value in
    too_short 1 _ _ c.args.at c.in_ok-m.m _ c.in_ok-m.ensures (omega (arith, f))

pub returns-in_err-count : goal.returns-in_err-count
returns-in_err-count g c =
    let f = large c.try_from.result _ _ c.try_from.ensures (sym c.in_err-count.ensures.value) in
    rw c.from_residual-in_err-count.ensures (too_long 1 _ _ c.args.at c.in_ok-m.m _ c.in_ok-m.ensures (omega (arith, f)) (omega (arith, f)))
