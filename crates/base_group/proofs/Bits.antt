-- Bits as octets, for any width of the digits that they come from.
use Prim.Native.Nat.{ℕ, zero, suc, ◌+◌, ◌*◌, ◌-◌, ◌/◌, ◌%◌, ◌^◌, ◌≤◌, ◌<◌}
use mathlib.Core.Path.{◌≡◌, refl, sym, ap, subst, ◌∙◌}
use mathlib.Core.Bool.{◌&&◌}
use mathlib.Core.List.{List, [], ◌∷◌, ◌++◌, append-nil}
use Rattle.std.specs.Prelude.{Option, None, Some}
use native.Mathlib.Omega.{arith}
use native.Mathlib.Nat.{pow-suc, pow-zero, one-le-pow, mul-add-div_right, mul-add-mod_self_right, div-eq_of_lt, mod-eq_of_lt, mod-lt, add-zero, sub-zero}
use lib.Dec.{ltb, eqb}
use lib.ListN.{length, take, drop, length-take, length-drop, take-append-drop}
use Rattle.format.specs.Lists.{provided, cons_both}
use Rattle.format.specs.Octets.{Below, Octets}
use Rattle.format.specs.Digits.{digits, number_from, number}
use Rattle.format.specs.Base.{bits, whole_octets, from_digits}
use Rattle.format.proofs.Lists.{below_take, below_drop}
use Rattle.format.proofs.Digits.{digits_below, digits_length, number_digits, digits_number, number_bound, number_append}
use Rattle.format.proofs.Base.{bits_below, bits_length}
use Rattle.digits.proofs.Bits.{flat_append}
use Rattle.digits.proofs.Bits.{bits_number, power, regrouped}
use borrow.Author.Tests.{lt-ltb, le-ltb, ne_eqb}
use Rattle.buffer.specs.Writing.{Wrote, Values, after}
use Rattle.buffer.proofs.Values.{after_none}

pub number_last : (b : ℕ) (ds : List ℕ) (d : ℕ) → number b (ds ++ d ∷ []) ≡ number b ds * b + d
number_last b ds d = number_append b 0 ds (d ∷ [])

-- the number of a's bits followed by others
number_from_lem : (a : ℕ) (bs : List ℕ) → number_from 2 a bs ≡ a * 2 ^ length bs + number 2 bs
number_from_lem a [] = omega (arith, pow-zero 2)
number_from_lem a (b ∷ bs) =
    let e : 2 ^ suc (length bs) ≡ 2 ^ length bs * 2 = pow-suc 2 (length bs) in
    number_from_lem (a * 2 + b) bs ∙ sym (rw e (ap (λ x. a * (2 ^ length bs * 2) + x) (number_from_lem (0 * 2 + b) bs) ∙ omega arith))

-- the bits of digits follow from their count and their number
pub digits_bits : (w : ℕ) (ds : List ℕ) → Below (2 ^ w) ds → bits w ds ≡ digits 2 (w * length ds) (number (2 ^ w) ds)
digits_bits w ds h =
    sym (digits_number 2 (bits w ds) (bits_below w ds)) ∙ ap (λ x. digits 2 x (number 2 (bits w ds))) (bits_length w ds) ∙ ap (digits 2 (w * length ds)) (bits_number w 0 ds h)

pub digits_bound : (w : ℕ) (ds : List ℕ) → Below (2 ^ w) ds → number (2 ^ w) ds < 2 ^ (w * length ds)
digits_bound w ds h = rw (power w (length ds)) (number_bound (2 ^ w) ds h)

-- bits are octets and z bits after them
two_parts : (z a b : ℕ) → b < 2 ^ z → ((a * 2 ^ z + b) / 2 ^ z ≡ a) × ((a * 2 ^ z + b) % 2 ^ z ≡ b)
two_parts z a b h =
    let pos : 0 < 2 ^ z = one-le-pow z 2 (omega arith) in
    (mul-add-div_right pos a b ∙ ap (λ k. a + k) (div-eq_of_lt h) ∙ add-zero a, mul-add-mod_self_right a (2 ^ z) b ∙ mod-eq_of_lt h)

octets_and_bits : (o z : ℕ) (bs : List ℕ) → Below 2 bs → length bs ≡ 8 * o + z → bs ≡ bits 8 (digits 256 o (number 2 bs / 2 ^ z)) ++ digits 2 z (number 2 bs % 2 ^ z)
octets_and_bits o z bs b e =
    let p : List ℕ = take (8 * o) bs in
    let r : List ℕ = drop (8 * o) bs in
    let lp : length p ≡ 8 * o = omega (arith, length-take (8 * o) bs) in
    let lr : length r ≡ z = omega (arith, length-drop (8 * o) bs) in
    let br : Below 2 r = below_drop 2 (8 * o) bs b in
    let v : number 2 bs ≡ number 2 p * 2 ^ z + number 2 r = ap (number 2) (sym (take-append-drop (8 * o) bs)) ∙ number_append 2 0 p r ∙ number_from_lem (number 2 p) r ∙ ap (λ x. number 2 p * 2 ^ x + number 2 r) lr in
    let small : number 2 r < 2 ^ z = subst (λ x. number 2 r < 2 ^ x) lr (number_bound 2 r br) in
    let t = two_parts z (number 2 p) (number 2 r) small in
    let bp : bits 8 (digits 256 o (number 2 p)) ≡ p = regrouped 8 o p (below_take 2 (8 * o) bs b) lp in
    let bz : digits 2 z (number 2 r) ≡ r = ap (λ x. digits 2 x (number 2 r)) (sym lr) ∙ digits_number 2 r br in
    rw (v, t.0, t.1, bp, bz) (sym (take-append-drop (8 * o) bs))

-- the octets of bits, and the bits left over
cons_after : (x : ℕ) (xs : List ℕ) (o : Option (List ℕ)) → cons_both (Some x) (after xs o) ≡ after (x ∷ xs) o
cons_after x xs None = refl
cons_after x xs (Some ys) = refl

octet_whole : (w v : ℕ) (bs r : List ℕ) → 1 ≤ length bs → whole_octets w (length bs) v (bs ++ r) ≡ cons_both (Some (number_from 2 v bs)) (whole_octets w 8 0 r)
octet_whole w v [] r h = absurd (omega arith)
octet_whole w v (b ∷ []) r h = refl
octet_whole w v (b ∷ c ∷ bs) r h = octet_whole w (v * 2 + b) (c ∷ bs) r (omega arith)

octets_whole : (w : ℕ) (xs r : List ℕ) → Octets xs → whole_octets w 8 0 (bits 8 xs ++ r) ≡ after xs (whole_octets w 8 0 r)
octets_whole w [] r h = sym (after_none (whole_octets w 8 0 r))
octets_whole w (x ∷ xs) r h =
    octet_whole w 0 (digits 2 8 x) (bits 8 xs ++ r) (omega arith)
    ∙ ap (λ y. cons_both (Some y) (whole_octets w 8 0 (bits 8 xs ++ r))) (number_digits 2 8 x (omega arith) h.0)
    ∙ ap (cons_both (Some x)) (octets_whole w xs r h.1)
    ∙ cons_after x xs (whole_octets w 8 0 r)

left_over : (w m v : ℕ) (bs : List ℕ) → length bs < m → whole_octets w m v bs ≡ provided (ltb (8 - (m - length bs)) w && eqb (number_from 2 v bs) 0) []
left_over w m v [] h = rw (sub-zero m)
left_over w zero v (b ∷ bs) h = absurd (omega arith)
left_over w (suc zero) v (b ∷ bs) h = absurd (omega arith)
left_over w (suc (suc m)) v (b ∷ bs) h = let q : suc (suc m) - suc (length bs) ≡ suc m - length bs = omega arith in rw q (left_over w (suc m) (v * 2 + b) bs (omega arith))

-- the octets of a number's bits
number_octets : (w l v o z : ℕ) → l ≡ 8 * o + z → z < 8 → v < 2 ^ l → whole_octets w 8 0 (digits 2 l v) ≡ after (digits 256 o (v / 2 ^ z)) (provided (ltb z w && eqb (v % 2 ^ z) 0) [])
number_octets w l v o z e h s =
    let bs : List ℕ = digits 2 l v in
    let u : ℕ = v % 2 ^ z in
    let n : number 2 bs ≡ v = number_digits 2 l v (omega arith) s in
    let d : bs ≡ bits 8 (digits 256 o (v / 2 ^ z)) ++ digits 2 z u = octets_and_bits o z bs (digits_below 2 l v (omega arith)) (digits_length 2 l v ∙ e) ∙ ap (λ x. bits 8 (digits 256 o (x / 2 ^ z)) ++ digits 2 z (x % 2 ^ z)) n in
    let lz : length (digits 2 z u) ≡ z = digits_length 2 z u in
    let nz : number 2 (digits 2 z u) ≡ u = number_digits 2 z u (omega arith) (mod_small z v) in
    let q : 8 - (8 - length (digits 2 z u)) ≡ z = omega arith in
    ap (whole_octets w 8 0) d ∙ octets_whole w (digits 256 o (v / 2 ^ z)) (digits 2 z u) (digits_below 256 o (v / 2 ^ z) (omega arith))
    ∙ ap (after (digits 256 o (v / 2 ^ z))) (left_over w 8 0 (digits 2 z u) (omega arith) ∙ ap (λ x. provided (ltb x w && eqb (number 2 (digits 2 z u)) 0) []) q ∙ ap (λ x. provided (ltb z w && eqb x 0) []) nz)
  where
    mod_small : (z v : ℕ) → v % 2 ^ z < 2 ^ z
    mod_small z v = mod-lt v (one-le-pow z 2 (omega arith))

-- the octets of a group, before those of the digits after it
pub group_octets_lem : (w g : ℕ) (ds r : List ℕ) → Below (2 ^ w) ds → w * length ds ≡ 8 * g → from_digits w (ds ++ r) ≡ after (digits 256 g (number (2 ^ w) ds)) (from_digits w r)
group_octets_lem w g ds r h e =
    let v : ℕ = number (2 ^ w) ds in
    let n : number 2 (bits w ds) ≡ v = bits_number w 0 ds h in
    let d : bits w ds ≡ bits 8 (digits 256 g v) = sym (regrouped 8 g (bits w ds) (bits_below w ds) (bits_length w ds ∙ e)) ∙ ap (λ x. bits 8 (digits 256 g x)) n in
    ap (whole_octets w 8 0) (flat_append (digits 2 w) ds r ∙ ap (λ x. x ++ bits w r) d) ∙ octets_whole w (digits 256 g v) (bits w r) (digits_below 256 g v (omega arith))

-- the octets of the last digits, given their number
module _ (w q v : ℕ) (s : v < 2 ^ (w * q)) where
  whole : whole_octets w 8 0 (digits 2 (w * q) v) ≡ after (digits 256 (w * q / 8) (v / 2 ^ (w * q % 8))) (provided (ltb (w * q % 8) w && eqb (v % 2 ^ (w * q % 8)) 0) [])
  whole = number_octets w (w * q) v (w * q / 8) (w * q % 8) (omega arith) (omega arith) s

  pub many_left : w ≤ w * q % 8 → whole_octets w 8 0 (digits 2 (w * q) v) ≡ None
  many_left h = whole ∙ rw (le-ltb (w * q % 8) w h)

  module _ (p : ℕ) (e : p ≡ 2 ^ (w * q % 8)) (h : w * q % 8 < w) where
    pub bits_left : (v % p ≡ 0 → ⊥) → whole_octets w 8 0 (digits 2 (w * q) v) ≡ None
    bits_left n = whole ∙ rw (← e, lt-ltb (w * q % 8) w h, ne_eqb (v % p) 0 n)

    pub none_left : (o o' : List ℕ) (n r : ℕ) → v % p ≡ 0 → Wrote o o' n r (digits 256 (w * q / 8) (v / p)) → Values o o' n (Some r) (whole_octets w 8 0 (digits 2 (w * q) v))
    none_left o o' n r z c = (digits 256 (w * q / 8) (v / p), whole ∙ rw (← e, lt-ltb (w * q % 8) w h, z, append-nil (digits 256 (w * q / 8) (v / p))), c)
