use Rattle.std.proofs.Common.{◌≡◌, ◌+◌, ◌≤◌, ap, ◌∙◌, arith, length, take, drop, length-drop}
use Rattle.std.proofs.lemmas.List.{drop-drop}
use Rattle.format.specs.Token.{quoted}
use Rattle.format.specs.Text.{string_value}
use Rattle.octets.proofs.Slices.{lent_rest}
use Rattle.buffer.proofs.Laws.{wrote_one}
use Rattle.buffer.proofs.Values.{after, begun_piece, begun_fault, begun_all}
use Rattle.escape.specs.Escapes.{no_escape}
use Rattle.text.proofs.Runs.{run_within}
use Rattle.text.proofs.Texts.{run_value, run_stops, quoted_none, escape_fault, escape_octet}
use Rattle.text.proofs.read.escaped.Goals as goal

pub returns-in_err-b : goal.returns-in_err-b
returns-in_err-b c =
    let q = rw (lent_rest c.args.t.now (c.loop-j.j + 1), c.in_err-b.was) at c.read.ensures.items in
    rw c.from_residual.ensures (begun_fault c.loop-j.invariant.begun (escape_fault c.args.t.now c.loop-j.j c.loop-j-test.true c.loop-j.invariant.escape q))

pub loop-j-preserved : goal.loop-j-preserved
loop-j-preserved c =
    let t = c.args.t.now in
    let i = c.loop-j.j + 1 + c.in_ok-b.k in
    let n = c.copy_run-n.result in
    let r = rw (lent_rest t (c.loop-j.j + 1), c.in_ok-b.was) at c.read.ensures.items in
    let k = rw (lent_rest t (c.loop-j.j + 1), c.in_ok-b.was) at c.read.ensures.within in
    let q = c.copy_run-n.ensures.count in
    let w = c.copy_run-n.ensures.wrote in
    let e : drop n (drop i t) ≡ drop (c.loop-j.j + (1 + c.in_ok-b.k + n)) t = drop-drop n i t ∙ ap (λ m. drop m t) (omega arith) in
    let m : c.loop-j.m + (1 + n) ≡ c.loop-j.m + 1 + n = omega arith in
    let h : i + n ≤ length t = omega (arith, run_within no_escape n (drop i t) q, k.1, length-drop (c.loop-j.j + 1) t, length-drop i t) in
    record {
      within = omega arith;
      room = omega (arith, c.loop-j.invariant.room);
      escape = rw (← e) (run_stops (drop i t) n q);
      begun = rw m
          (begun_piece _ _
          (begun_piece _ _ c.loop-j.invariant.begun (wrote_one _ _ _ _ c.put.ensures) (escape_octet t c.loop-j.j c.loop-j-test.true c.loop-j.invariant.escape _ _ r))
          w (run_value (drop i t) n q ∙ ap (λ s. after (take n (drop i t)) (string_value (quoted s))) e));
    }

pub returns : goal.returns
returns c = begun_all c.loop-j.invariant.begun (quoted_none c.args.t.now c.loop-j.j c.loop-j-test.false)
