use Rattle.std.proofs.Common.{arith}
use Rattle.octets.proofs.Slices.{lent_rest}
use Rattle.buffer.proofs.Values.{begun_none, begun_piece, begun_rest}
use Rattle.text.proofs.Texts.{run_value, run_stops, bare_fault, value_all}
use Rattle.text.proofs.read.value.Goals as goal

pub returns-then-t-j : goal.returns-then-t-j
returns-then-t-j c =
    (_, value_all c.args.t.now c.copy_far-j.result c.copy_far-j.ensures.count c.if-t-j.true c.args.quoted, c.copy_far-j.ensures.wrote)

pub escaped-requires-clause-escape : goal.escaped-requires-clause-escape
escaped-requires-clause-escape c =
    rw (lent_rest c.args.t.now c.copy_far-j.result) (run_stops c.args.t.now c.copy_far-j.result c.copy_far-j.ensures.count)

pub returns-then-quoted : goal.returns-then-quoted
returns-then-quoted c =
    let e = rw (lent_rest c.args.t.now c.copy_far-j.result) at c.escaped.ensures in
    rw c.if-quoted.true
    (begun_rest _ c.escaped.result
    (begun_piece _ _ (begun_none _ _ _) c.copy_far-j.ensures.wrote (run_value c.args.t.now c.copy_far-j.result c.copy_far-j.ensures.count)) e)

pub returns : goal.returns
returns c =
    rw c.if-quoted.false (bare_fault c.args.t.now c.copy_far-j.result c.copy_far-j.ensures.count (omega arith))
