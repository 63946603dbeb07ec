use mathlib.Core.Path.{sym, ◌∙◌}
use Rattle.address.specs.Part.{piece_of}
use Rattle.address.proofs.part.PartForm.piece.Goals as goal

pub returns-in_err-v : goal.returns-in_err-v
unfolding piece_of
returns-in_err-v c = rw (c.from_residual.ensures, sym c.number.ensures ∙ c.in_err-v.was)

pub returns : goal.returns
unfolding piece_of
returns c = (_, rw (sym c.number.ensures ∙ c.in_ok-v.was), c.put_number.ensures)
