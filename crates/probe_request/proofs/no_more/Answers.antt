use Rattle.std.proofs.Common.{rules}
use Rattle.probe_request.proofs.Words.{some_left}
use Rattle.probe_request.proofs.no_more.Goals as goal

pub returns-else-is_empty : goal.returns-else-is_empty
returns-else-is_empty c = some_left c.args.rest.now (search rules)
