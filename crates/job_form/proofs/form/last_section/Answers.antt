use Rattle.job_form.proofs.Forms.{followed, last_found}
use Rattle.job_form.proofs.form.last_section.Goals as goal

pub returns-then-s-j : goal.returns-then-s-j
returns-then-s-j c =
    followed c.args.j.now c.args.at c.in_ok-s.s c.in_ok-s.ensures c.if-s-j.true

pub returns-else-s-j : goal.returns-else-s-j
returns-else-s-j c =
    last_found c.args.j.now c.args.at c.in_ok-s.s c.in_ok-s.ensures c.if-s-j.false
