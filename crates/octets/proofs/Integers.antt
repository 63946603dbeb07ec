-- The number that a few octets of a list make.
use Prim.Native.Nat.{ℕ, ◌+◌, ◌*◌, ◌^◌, ◌≤◌, ◌<◌}
use mathlib.Core.Path.{◌≡◌, ap, ◌∙◌}
use mathlib.Core.List.{List, ◌∷◌}
use native.Mathlib.Omega.{arith}
use native.Mathlib.Numerals.{add-one}
use native.Mathlib.Nat.{pow-suc, pow-le-pow_right}
use lib.Dec.{lit<}
use lib.ListN.{length, get_or}
use lib.Seq.{slice}
use Rattle.format.specs.Digits.{number}
use Rattle.octets.proofs.Slices.{next, none}

-- a part of at least two octets is those two and the rest
pub next_two : (s : List ℕ) (i e : ℕ) → i + 1 < e → e ≤ length s → slice i e s ≡ get_or s i 0 ∷ get_or s (i + 1) 0 ∷ slice (i + 2) e s
next_two s i e h l =
    let q : i + 1 + 1 ≡ i + 2 = omega arith in
    next s i e (omega arith) l ∙ ap (λ (t : List ℕ). get_or s i 0 ∷ t) (next s (i + 1) e h l ∙ ap (λ (k : ℕ). get_or s (i + 1) 0 ∷ slice k e s) q)

pub two_octets : (s : List ℕ) (i e : ℕ) → e ≡ i + 2 → e ≤ length s → number 256 (slice i e s) ≡ get_or s i 0 * 256 + get_or s (i + 1) 0
two_octets s i e h l =
    ap (number 256) (next_two s i e (omega arith) l ∙ ap (λ (t : List ℕ). get_or s i 0 ∷ get_or s (i + 1) 0 ∷ t) (none s (i + 2) e (omega arith)))
    ∙ omega arith

-- with one octet more the number stays below 256 to the power of the octets read
pub one_more_octet : (v n x : ℕ) → v < 256 ^ n → x < 256 → v * 256 + x < 256 ^ (n + 1)
one_more_octet v n x h k = rw (add-one, pow-suc 256 n) (omega arith)

pub octets_fit : (v n m : ℕ) → n ≤ m → v < 256 ^ n → v < 256 ^ m
octets_fit v n m h k = omega (arith, pow-le-pow_right {n = 256} (lit< tt) {i = n} {j = m} h)
