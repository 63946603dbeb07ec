use Rattle.buffer.proofs.Laws.{wrote_text}
use Rattle.job_turns.proofs.Turns.{reached_next, outlined_lent, line_lent}
use Rattle.job_turns.proofs.put_lines.Goals as goal

pub put_record-n-requires-clause-judged : goal.put_record-n-requires-clause-judged
put_record-n-requires-clause-judged c =
    outlined_lent c.args.j.now _ _ _ _ c.requires.begun.form.stanza_after c.requires.begun.judged

pub loop-m-preserved : goal.loop-m-preserved
loop-m-preserved c =
    reached_next _ _ c.loop-m.invariant c.line_end-e.ensures c.if-out-n-lt-LONGEST_LINE.false _ _
    (wrote_text _ _ (line_lent c.args.j.now _ _ _ _ _ c.requires.begun.form.stanza_after c.line_end-e.ensures.after) c.put_record-n.ensures)
