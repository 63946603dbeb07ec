-- Bits, and the digits of any width that they make.
use Prim.Native.Nat.{ℕ, zero, suc, ◌+◌, ◌*◌, ◌/◌, ◌%◌, ◌^◌, ◌<◌}
use mathlib.Core.Path.{◌≡◌, refl, sym, ap, subst, ◌∙◌}
use mathlib.Core.List.{List, [], ◌∷◌, ◌++◌, append_assoc}
use native.Mathlib.Omega.{arith}
use native.Mathlib.Nat.{pow-suc, pow-zero, mul_assoc, mul-suc, one-le-pow}
use lib.Pow.{pow-add}
use lib.ListN.{length}
use Rattle.format.specs.Lists.{flat_map}
use Rattle.format.specs.Octets.{Below}
use Rattle.format.specs.Digits.{digits, number_from, number}
use Rattle.format.specs.Base.{bits}
use Rattle.format.proofs.Digits.{digits_below, digits_length, number_digits, digits_number, number_bound, number_append}
use Rattle.format.proofs.Base.{bits_below, bits_length}

-- flat_map of two lists, one after another
pub flat_append : {A B : Type 0} (f : A → List B) (xs ys : List A) → flat_map f (xs ++ ys) ≡ flat_map f xs ++ flat_map f ys
flat_append f [] ys = refl
flat_append f (x ∷ xs) ys = ap (λ t. f x ++ t) (flat_append f xs ys) ∙ sym (append_assoc (f x) (flat_map f xs) (flat_map f ys))

-- the number of a's bits followed by the w bits of d
pub bits_after : (w a d : ℕ) → d < 2 ^ w → number_from 2 a (digits 2 w d) ≡ a * 2 ^ w + d
bits_after zero a d h = omega (arith, pow-zero 2)
bits_after (suc w) a d h =
    let g : d < 2 ^ w * 2 = rw (pow-suc 2 w) at h in
    let e : a * 2 ^ suc w ≡ a * 2 ^ w * 2 = rw (pow-suc 2 w) (sym (mul_assoc a (2 ^ w) 2)) in
    number_append 2 a (digits 2 w (d / 2)) (d % 2 ∷ []) ∙ ap (λ x. x * 2 + d % 2) (bits_after w a (d / 2) (omega arith)) ∙ omega arith

-- the bits of digits are the bits of the number whose digits they are
pub bits_number : (w a : ℕ) (ds : List ℕ) → Below (2 ^ w) ds → number_from 2 a (bits w ds) ≡ number_from (2 ^ w) a ds
bits_number w a [] h = refl
bits_number w a (d ∷ ds) h =
    number_append 2 a (digits 2 w d) (bits w ds) ∙ ap (λ x. number_from 2 x (bits w ds)) (bits_after w a d h.0) ∙ bits_number w (a * 2 ^ w + d) ds h.1

pub power : (w k : ℕ) → 2 ^ (w * k) ≡ (2 ^ w) ^ k
power w zero = let e : w * 0 ≡ 0 = omega arith in rw (e, pow-zero (2 ^ w))
power w (suc k) = rw (mul-suc w k, pow-add 2 (w * k) w, power w k, pow-suc (2 ^ w) k)

-- bits regrouped into digits of w bits are the same bits
pub regrouped : (w k : ℕ) (bs : List ℕ) → Below 2 bs → length bs ≡ w * k → bits w (digits (2 ^ w) k (number 2 bs)) ≡ bs
regrouped w k bs b e =
    let v : ℕ = number 2 bs in
    let ds : List ℕ = digits (2 ^ w) k v in
    let pos : 0 < 2 ^ w = one-le-pow w 2 (omega arith) in
    let l : length (bits w ds) ≡ length bs = bits_length w ds ∙ ap (λ x. w * x) (digits_length (2 ^ w) k v) ∙ sym e in
    let s : v < (2 ^ w) ^ k = subst (λ x. v < x) (ap (λ x. 2 ^ x) e ∙ power w k) (number_bound 2 bs b) in
    let q : number 2 (bits w ds) ≡ v = bits_number w 0 ds (digits_below (2 ^ w) k v pos) ∙ number_digits (2 ^ w) k v pos s in
    sym (digits_number 2 (bits w ds) (bits_below w ds)) ∙ ap (λ x. digits 2 x (number 2 (bits w ds))) l ∙ ap (digits 2 (length bs)) q ∙ digits_number 2 bs b
