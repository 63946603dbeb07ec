-- Letters: the bit by which a capital differs from its small letter.
use Prim.Native.Nat.{ℕ, ◌<◌}
use mathlib.Core.Path.{◌≡◌, refl, sym}
use mathlib.Core.Bool.{Bool, true, false, not, cond}
use lib.Bits.{bit_or}
use Rattle.format.specs.Octets.{letter, in_range}
use Rattle.format.proofs.Lists.{not_true}
use Rattle.format.proofs.Finite.{at_each}

same_true : (a b : Bool) → cond a b (not b) ≡ true → a ≡ b
same_true true b h = sym h
same_true false b h = sym (not_true b h)

pub small_letter : (x : ℕ) → x < 256 → in_range 97 122 (bit_or x 32) ≡ letter x
small_letter x h = same_true _ _ (at_each (λ x. cond (in_range 97 122 (bit_or x 32)) (letter x) (not (letter x))) 256 refl x h)
