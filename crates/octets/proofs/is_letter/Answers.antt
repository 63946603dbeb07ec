use mathlib.Core.Path.{◌∙◌}
use Rattle.octets.proofs.Letters.{small_letter}
use native.Mathlib.Omega.{arith}
use Rattle.octets.proofs.is_letter.Goals as goal

pub returns : goal.returns
returns c = c.is_ascii_lowercase.ensures.value ∙ small_letter c.args.b (omega arith)
