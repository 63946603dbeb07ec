use Rattle.std.proofs.Common.{arith, ◌+◌, ◌-◌, take, drop, length-drop}
use Rattle.std.proofs.lemmas.List.{length-take}
use Rattle.buffer.proofs.Laws.{left_piece, left_none, wrote_append}
use Rattle.name.proofs.Labels.{escaped_length, label_at, dotted_next, dotted_none}
use Rattle.name.proofs.print.labels.Goals as goal

pub slice_bounds-escaped-end : goal.slice_bounds-escaped-end
slice_bounds-escaped-end c =
    let s = label_at c.args.p.now c.loop-j.j c.loop-j-test.true c.loop-j.invariant.named in
    omega (arith, s.0, c.from.ensures)

pub put_octet-m-requires : goal.put_octet-m-requires
put_octet-m-requires c =
    let s = label_at c.args.p.now c.loop-j.j c.loop-j-test.true c.loop-j.invariant.named in
    let k = c.loop-j.j + 1 + c.from.result in
    let part = take (k - (c.loop-j.j + 1)) (drop (c.loop-j.j + 1) c.args.p.now) in
    omega (arith, s.0, c.from.ensures, c.escaped-a.ensures.count, escaped_length part, length-take (k - (c.loop-j.j + 1)) (drop (c.loop-j.j + 1) c.args.p.now))

pub loop-j-preserved : goal.loop-j-preserved
loop-j-preserved c =
    let s = label_at c.args.p.now c.loop-j.j c.loop-j-test.true c.loop-j.invariant.named in
    let k = c.loop-j.j + 1 + c.from.result in
    let part = take (k - (c.loop-j.j + 1)) (drop (c.loop-j.j + 1) c.args.p.now) in
    record {
      within = omega (arith, s.0, c.from.ensures);
      short = omega (arith, c.put_octet-m.ensures.count, c.escaped-a.ensures.count, escaped_length part, length-take (k - (c.loop-j.j + 1)) (drop (c.loop-j.j + 1) c.args.p.now));
      named = rw c.from.ensures s.1;
      left = left_piece _ _ _ _ c.loop-j.invariant.left (dotted_next c.args.p.now c.loop-j.j k (omega (arith, c.from.ensures)) (omega (arith, s.0, c.from.ensures))) (wrote_append c.escaped-a.ensures c.put_octet-m.ensures);
    }

pub returns : goal.returns
returns c =
    left_none c.loop-j.invariant.left (dotted_none (drop c.loop-j.j c.args.p.now) (omega (arith, length-drop c.loop-j.j c.args.p.now)))
