use mathlib.Core.Path.{◌∙◌}
use lib.ListN.{length}
use native.Mathlib.Omega.{arith}
use Rattle.format.specs.Field.{any_octets}
use Rattle.field_wire.proofs.Laws.{octets_cut, octets_all, all_left}
use Rattle.field_wire.proofs.octets.Goals as goal

pub returns-then-p-w : goal.returns-then-p-w
returns-then-p-w c =
    octets_cut c.args.p.now 0 (length c.args.p.now) (omega arith) c.args.w (omega arith) ∙ all_left (any_octets c.args.w) c.args.p.now

pub returns : goal.returns
returns c =
    octets_all c.args.p.now 0 (length c.args.p.now) (omega arith) c.args.w c.requires (omega arith) ∙ all_left (any_octets c.args.w) c.args.p.now
