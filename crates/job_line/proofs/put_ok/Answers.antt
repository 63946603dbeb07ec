use Rattle.std.proofs.Common.{rules}
use Rattle.buffer.proofs.Laws.{wrote_text, wrote_append}
use Rattle.job_line.proofs.Answers.{ok_octets}
use Rattle.job_line.proofs.put_ok.Goals as goal

pub returns : goal.returns
returns c =
    wrote_text _ _ (ok_octets c.args.rdata.now (search rules))
    (wrote_append c.put_all-hex.ensures (wrote_append c.put_hex_upper-end.ensures c.put_octet.ensures))
