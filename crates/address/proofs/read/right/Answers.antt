use Prim.Native.Nat.{ℕ, ◌+◌, ◌-◌}
use mathlib.Core.Path.{◌∙◌}
use mathlib.Core.Bool.{true}
use lib.ListN.{replicate}
use native.Mathlib.Omega.{arith}
use Rattle.std.proofs.lemmas.List.{drop-replicate}
use Rattle.buffer.proofs.Laws.{wrote_text}
use Rattle.octets.proofs.Slices.{lent_rest}
use Rattle.address.specs.Address.{side_in}
use Rattle.address.proofs.Groups.{right_all}
use Rattle.address.proofs.read.right.Goals as goal

pub returns : goal.returns
returns c =
    let n : ℕ = c.args.g + (c.in_ok-h.field-0 - c.args.at) in
    right_all c.args.g (side_in true c.args.t.now) _ _ _ _ (rw c.in_ok-h.was at c.side.ensures) _ _ _ c.side-2.result c.requires.left (omega (arith, c.if-g-h.false))
    (wrote_text _ _ (lent_rest {A = ℕ} (replicate 16 0) n ∙ drop-replicate n 16 0) c.put_all-m.ensures) c.side-2.ensures
