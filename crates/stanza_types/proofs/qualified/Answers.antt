use mathlib.Core.Path.{◌∙◌}
use mathlib.Core.List.{[]}
use Rattle.stanza_form.specs.Forms.{kind_of}
use Rattle.stanza_types.proofs.Meanings.{nothing_taken}
use Rattle.stanza_types.proofs.qualified.Goals as goal

pub returns-in-Plain : goal.returns-in-Plain
returns-in-Plain c =
    rw c.in-Plain.is (c.refused.ensures ∙ nothing_taken (kind_of [] c.in-Plain.field-0) c.args.s.now c.args.a c.args.b)
