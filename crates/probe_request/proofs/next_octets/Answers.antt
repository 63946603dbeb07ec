use Rattle.probe_request.proofs.Spelling.{spells}
use Rattle.probe_request.proofs.next_octets.Goals as goal

pub returns : goal.returns
returns c = spells c.in_ok-word.ensures c.in_ok-end.ensures
