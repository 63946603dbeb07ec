use Rattle.std.proofs.Common.{arith, sym, length-take-le}
use Rattle.buffer.proofs.Laws.{wrote_text}
use Rattle.job_record.proofs.Answers.{record_place, record_done, record_refused}
use Rattle.job_record.proofs.put_record.Goals as goal

pub slice_bounds-put_ok-end : goal.slice_bounds-put_ok-end
slice_bounds-put_ok-end c =
    let few = record_place c.requires.judged c.args.origin.now c.args.t.now c.requires.text _ c.requires.room _ _ c.read_judged-r.ensures c.if-r-eq0.true in
    omega (arith, few, c.requires.room)

pub slice_bounds-put_ok-end-then-r-eq0 : goal.slice_bounds-put_ok-end-then-r-eq0
slice_bounds-put_ok-end-then-r-eq0 c =
    let few = record_place c.requires.judged c.args.origin.now c.args.t.now c.requires.text _ c.requires.room _ _ c.read_judged-r.ensures c.if-r-eq0.true in
    sym (length-take-le c.read_judged-r.result.place c.read_judged-r.new.out (omega (arith, few, c.requires.room)))

pub put_ok-requires-clause-short : goal.put_ok-requires-clause-short
put_ok-requires-clause-short c =
    let few = record_place c.requires.judged c.args.origin.now c.args.t.now c.requires.text _ c.requires.room _ _ c.read_judged-r.ensures c.if-r-eq0.true in
    omega (arith, length-take-le c.read_judged-r.result.place c.read_judged-r.new.out (omega (arith, few, c.requires.room)), few)

pub returns-then-r-eq0 : goal.returns-then-r-eq0
returns-then-r-eq0 c =
    wrote_text _ _
    (record_done c.requires.judged c.args.origin.now c.args.t.now c.requires.text _ c.requires.room _ _ c.read_judged-r.ensures c.if-r-eq0.true) c.put_ok.ensures

pub returns : goal.returns
returns c =
    wrote_text _ _
    (record_refused c.requires.judged c.args.origin.now c.args.t.now c.requires.text _ c.requires.room _ _ c.read_judged-r.ensures c.if-r-eq0.false) c.put_no.ensures
