use Rattle.stanza_form.proofs.Forms.{form_again}
use Rattle.stanza_form.proofs.code.Goals as goal

pub returns : goal.returns
returns c =
    rw (c.together.ensures, c.held_by.ensures, c.number_of.ensures, form_again c.args.form)
