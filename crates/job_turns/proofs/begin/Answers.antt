use Rattle.job_turns.proofs.Turns.{outlined_part}
use Rattle.job_turns.proofs.begin.Goals as goal

pub returns : goal.returns
returns c = record {
  form = c.in_ok-places.ensures;
  judged = outlined_part c.args.j.now c.in_ok-places.places.from c.in_ok-places.places.to c.judged_outline-outline.new.codes c.judged_outline-outline.result
      c.in_ok-places.ensures.stanza_after c.judged_outline-outline.ensures;
}
