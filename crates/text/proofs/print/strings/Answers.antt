use Rattle.std.proofs.Common.{◌+◌, ◌-◌, sym, false, arith, take, drop, length-take}
use Rattle.buffer.proofs.Laws.{left_all, left_piece, left_none, wrote_append, wrote_text}
use Rattle.text.proofs.Strings.{string_length, some_string, whole_at, strings_text, others_next, others_none}
use Rattle.text.proofs.print.strings.Goals as goal

pub bounds-p-0 : goal.bounds-p-0
bounds-p-0 c = some_string c.args.p.now c.requires.strings

pub slice_bounds-string-end : goal.slice_bounds-string-end
slice_bounds-string-end c =
    let s = whole_at c.args.p.now 0 (some_string c.args.p.now c.requires.strings) (false, c.requires.strings) in
    omega (arith, s.0, c.from-j.ensures)

pub loop-j-init : goal.loop-j-init
loop-j-init c =
    let s = whole_at c.args.p.now 0 (some_string c.args.p.now c.requires.strings) (false, c.requires.strings) in
    let n = 1 + c.from-j.result - 1 in
    record {
      begun = omega arith;
      within = omega (arith, s.0, c.from-j.ensures);
      short = omega (arith, c.string-m.ensures.count, string_length (take n (drop 1 c.args.p.now)), length-take n (drop 1 c.args.p.now));
      whole = rw c.from-j.ensures s.1;
      left = left_all _ _ _;
    }

pub slice_bounds-string-end-in-loop-j : goal.slice_bounds-string-end-in-loop-j
slice_bounds-string-end-in-loop-j c =
    let s = whole_at c.args.p.now c.loop-j.j c.loop-j-test.true c.loop-j.invariant.whole in
    omega (arith, s.0, c.from.ensures)

pub loop-j-preserved : goal.loop-j-preserved
loop-j-preserved c =
    let p = c.args.p.now in
    let k = c.loop-j.j + 1 + c.from.result in
    let n = k - (c.loop-j.j + 1) in
    let s = whole_at p c.loop-j.j c.loop-j-test.true c.loop-j.invariant.whole in
    record {
      begun = omega arith;
      within = omega (arith, s.0, c.from.ensures);
      short = omega (arith, c.string-m-in-loop-j.ensures.count, c.put_octet-a.ensures.count, string_length (take n (drop (c.loop-j.j + 1) p)), length-take n (drop (c.loop-j.j + 1) p));
      whole = rw c.from.ensures s.1;
      left = left_piece _ _ _ _ c.loop-j.invariant.left (others_next p c.loop-j.j k (omega (arith, c.from.ensures)) (omega (arith, s.0, c.from.ensures)))
          (wrote_append c.put_octet-a.ensures c.string-m-in-loop-j.ensures);
    }

pub returns : goal.returns
returns c =
    let s = whole_at c.args.p.now 0 (some_string c.args.p.now c.requires.strings) (false, c.requires.strings) in
    wrote_text _ _ (sym (strings_text c.args.p.now (1 + c.from-j.result) (omega (arith, c.from-j.ensures)) (omega (arith, s.0, c.from-j.ensures))))
    (wrote_append c.string-m.ensures (left_none c.loop-j.invariant.left (others_none c.args.p.now c.loop-j.j c.loop-j-test.false)))
