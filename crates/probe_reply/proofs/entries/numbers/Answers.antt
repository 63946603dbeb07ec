use Rattle.std.proofs.Common.{◌≡◌, ◌+◌, ◌*◌, ◌-◌, arith, rules}
use Rattle.probe_reply.proofs.Numbers.{next_entry, all_entries}
use Rattle.probe_reply.proofs.entries.numbers.Goals as goal

pub loop-i-preserved : goal.loop-i-preserved
loop-i-preserved c =
    let e : c.loop-i.i * 8 + 8 - c.loop-i.i * 8 ≡ 8 = omega arith in
    next_entry c.args.xs.now _ c.loop-i.i _ (search rules) c.loop-i.invariant (rw e at c.number.ensures)

pub returns : goal.returns
returns c =
    let e : c.loop-i.i ≡ c.min-count.result = omega (arith, c.loop-i-test.false, c.loop-i.auto.i-end) in
    all_entries c.args.xs.now _ _ (search rules) (rw e at c.loop-i.invariant)
