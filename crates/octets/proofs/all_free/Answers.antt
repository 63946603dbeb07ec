use mathlib.Core.Path.{sym, ap, ◌∙◌}
use Prim.Native.Nat.{◌-◌}
use lib.ListN.{length}
use lib.Seq.{take_all}
use lib.Dec.{eqb}
use Rattle.format.specs.Lists.{all_of}
use Rattle.octets.specs.Octets.{in_class}
use Rattle.octets.specs.declared.Class.TheVariants.{FreeText}
use Rattle.octets.proofs.Blocks.{all_over, all_length, last_part}
use native.Mathlib.Omega.{arith}
use Rattle.octets.proofs.all_free.Goals as goal

pub returns-then-all_in : goal.returns-then-all_in
returns-then-all_in c =
    let xs = c.args.xs.now in
    let f = in_class FreeText in
    c.all_in-then-all_in.ensures ∙ ap (all_of f) (last_part xs (length xs - 8) (omega arith))
    ∙ all_over f xs 0 8 (length xs - 8) (length xs) (omega arith) (omega arith) (omega arith) (omega arith) (sym c.all_in.ensures ∙ c.if-all_in.true)
    ∙ ap (all_of f) (take_all (length xs) xs (omega arith))

pub returns : goal.returns
returns c = ap (λ k. eqb k (length c.args.xs.now)) c.skip.ensures ∙ sym (all_length (in_class FreeText) c.args.xs.now)
