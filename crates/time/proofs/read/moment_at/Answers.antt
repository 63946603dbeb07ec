use mathlib.Core.Path.{sym, ◌∙◌}
use Rattle.octets.proofs.Slices.{lent_rest}
use Rattle.time.proofs.Moments.{moment_parts}
use Rattle.time.proofs.read.moment_at.Goals as goal

pub returns-in_err-d : goal.returns-in_err-d
returns-in_err-d c = c.from_residual.ensures ∙ sym (moment_parts c.args.t.now c.requires ∙ rw (← c.decimal.ensures, c.in_err-d.was))

pub returns-in_err-s : goal.returns-in_err-s
returns-in_err-s c =
    c.from_residual-in_err-s.ensures
    ∙ sym (moment_parts c.args.t.now c.requires ∙ rw (← c.decimal.ensures, c.in_ok-d.was, ← lent_rest c.args.t.now 8, ← c.decimal-2.ensures, c.in_err-s.was))

pub returns : goal.returns
returns c =
    c.moment.ensures
    ∙ sym (moment_parts c.args.t.now c.requires ∙ rw (← c.decimal.ensures, c.in_ok-d.was, ← lent_rest c.args.t.now 8, ← c.decimal-2.ensures, c.in_ok-s.was))
