use Rattle.std.proofs.Common.{sym, ap, ◌+◌, arith, drop, get_or, length-drop}
use Rattle.format.specs.Lists.{flat_map}
use Rattle.format.specs.Text.{string_escape}
use Rattle.format.proofs.Lists.{drop_none}
use Rattle.octets.proofs.Slices.{lent_rest}
use Rattle.buffer.proofs.Laws.{left_piece, left_none, wrote_append, wrote_text}
use Rattle.text.specs.Plain.{plain_text}
use Rattle.text.proofs.Runs.{run_within}
use Rattle.text.proofs.Plain.{plain_part, escape_then, escape_short}
use Rattle.text.proofs.print.escaped.Goals as goal

pub loop-j-preserved : goal.loop-j-preserved
loop-j-preserved c =
    let p = c.args.p.now in
    let j = c.loop-j.j in
    let q = rw (lent_rest p (j + 1)) at c.copy_far-n.ensures.count in
    let w = rw (lent_rest p (j + 1)) at c.copy_far-n.ensures.wrote in
    let h = run_within plain_text c.copy_far-n.result (drop (j + 1) p) q in
    record {
      within = omega (arith, h, length-drop (j + 1) p);
      short = omega (arith, c.put_escaped_string-a.ensures.count, escape_short (get_or p j 0));
      left = left_piece _ _ _ _ c.loop-j.invariant.left (escape_then p j c.copy_far-n.result c.loop-j-test.true q) (wrote_append c.put_escaped_string-a.ensures w);
    }

pub returns : goal.returns
returns c =
    wrote_text _ _ (sym (plain_part c.args.p.now c.copy_far-j.result c.copy_far-j.ensures.count))
    (wrote_append c.copy_far-j.ensures.wrote (left_none c.loop-j.invariant.left (ap (flat_map string_escape) (drop_none c.args.p.now c.loop-j.j c.loop-j-test.false))))
