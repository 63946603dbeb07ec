use mathlib.Core.Path.{ap, sym, ◌∙◌}
use lib.ListN.{length}
use lib.Seq.{take_all}
use native.Mathlib.Omega.{arith}
use Rattle.format.specs.Digits
use Rattle.format.specs.Catalogue.{type_text_in}
use Rattle.catalogue.specs.Known.{names_in}
use Rattle.buffer.proofs.Laws.{wrote_text}
use Rattle.octets.proofs.Integers.{two_octets}
use Rattle.rrtype.proofs.print.field.Goals as goal

pub returns : goal.returns
returns c =
    wrote_text _ _
    (ap (type_text_in (names_in c.args.c.now)) (c.two.ensures.value ∙ sym (two_octets c.args.p.now 0 (length c.args.p.now) c.requires.two (omega arith)) ∙ ap (Digits.number 256) (take_all (length c.args.p.now) c.args.p.now (omega arith))))
    c.number.ensures
