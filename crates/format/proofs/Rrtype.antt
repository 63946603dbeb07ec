-- R: the text of a type reads back, and is short.
use Prim.Native.Nat.{ℕ, ◌≤◌, ◌<◌}
use mathlib.Core.Path.{◌≡◌, refl}
use Rattle.std.specs.Prelude.{Some}
use native.Mathlib.Omega.{arith}
use lib.ListN.{length}
use borrow.Author.Tests.{lt-ltb}
use Rattle.format.specs.Rrtype.{type_text, type_number}
use Rattle.format.proofs.Digits.{decimal_back}
use Rattle.format.proofs.Token.{Plainly}
use Rattle.format.proofs.Number.{decimal_plain, decimal_5}

pub type_plain : (n : ℕ) → Plainly (type_text n)
type_plain n = (refl, (refl, (refl, (refl, decimal_plain n))))

pub type_length : (n : ℕ) → n < 65536 → (1 ≤ length (type_text n)) × (length (type_text n) ≤ 9)
type_length n h = (omega arith, omega (arith, decimal_5 n (omega arith)))

pub type_value : (n : ℕ) → n < 65536 → type_number (type_text n) ≡ Some n
type_value n h = rw (decimal_back n (omega arith), lt-ltb n 65536 h)
