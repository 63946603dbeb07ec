use Rattle.std.proofs.Common.{arith}
use Rattle.octets.proofs.Slices.{front_off}
use Rattle.tokens.specs.Tokens.{standing}
use Rattle.tokens.proofs.Scans.{slash_stops}
use Rattle.tokens.proofs.skip_after.Goals as goal

pub returns-then-t-i-eq92 : goal.returns-then-t-i-eq92
returns-then-t-i-eq92 c =
    front_off (standing c.args.q) c.args.t.now c.args.i _ c.if-i-t.true (omega arith) (slash_stops c.args.q _ c.if-t-i-eq92.true)
