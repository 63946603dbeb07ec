use Rattle.job_form.proofs.Places.{ends_line}
use Rattle.job_form.proofs.lines.line_end.Goals as goal

pub returns : goal.returns
returns c =
    ends_line _ _ _ c.requires c.line_end.ensures
