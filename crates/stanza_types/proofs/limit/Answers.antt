use Rattle.stanza_types.proofs.Meanings.{limit_is}
use Rattle.stanza_types.proofs.limit.Goals as goal

pub returns : goal.returns
returns c = limit_is c.args.w c.requires
