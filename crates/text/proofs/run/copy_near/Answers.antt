use Rattle.std.proofs.Common.{sym, arith}
use Rattle.std.proofs.lemmas.List.{length-take-le}
use Rattle.text.proofs.Runs.{run_within}
use Rattle.text.proofs.run.copy_near.Goals as goal

pub slice_bounds-put_all-end : goal.slice_bounds-put_all-end
slice_bounds-put_all-end g c = sym (length-take-le _ c.args.t.now (run_within g.P.Plain.plain _ c.args.t.now c.near-n.ensures))

pub returns-clause-wrote : goal.returns-clause-wrote
returns-clause-wrote g c = record {
  octets = c.put_all.ensures.octets;
  count = omega (arith, length-take-le c.near-n.result c.args.t.now (run_within g.P.Plain.plain _ c.args.t.now c.near-n.ensures));
}
