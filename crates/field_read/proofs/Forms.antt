-- The octets of an EUI.
use Prim.Native.Nat.{ℕ, ◌≤◌}
use mathlib.Core.Path.{◌≡◌, refl, sym}
use mathlib.Core.Bool.{Bool, true, false, ◌||◌, true≢false}
use native.Mathlib.Omega.{arith}
use lib.Dec.{eqb}
use borrow.Author.Tests.{eqb-true}
use Rattle.format.specs.Field.{eui}
use Rattle.format.specs.Demands.{sound_kind}

-- the widths of EUI48 and EUI64
in_eight : (w : ℕ) (a b : Bool) → eqb w 6 ≡ a → eqb w 8 ≡ b → a || (b || false) ≡ true → w ≤ 8
in_eight w true b p q e = let z = eqb-true w 6 p in omega arith
in_eight w false true p q e = let z = eqb-true w 8 q in omega arith
in_eight w false false p q e = absurd (true≢false (sym e))

pub eui_eight : (w : ℕ) → sound_kind (eui w) ≡ true → w ≤ 8
eui_eight w h = in_eight w (eqb w 6) (eqb w 8) refl refl h
