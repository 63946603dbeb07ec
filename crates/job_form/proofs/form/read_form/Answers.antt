use Rattle.job_form.proofs.Forms.{formed}
use Rattle.job_form.proofs.form.read_form.Goals as goal

pub returns : goal.returns
returns c =
    formed c.args.j.now c.if-j-gt65535.false c.in_ok-s.s c.in_ok-s.ensures _ _ c.in_ok-r.r c.in_ok-r.ensures c.requires
