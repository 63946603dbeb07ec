-- The numbers of parts.
use Prim.Native.Nat.{ℕ, zero, suc, ◌+◌, ◌*◌, ◌-◌, ◌^◌, ◌≤◌, ◌<◌}
use mathlib.Core.Path.{◌≡◌, refl, sym, ap, ◌∙◌}
use mathlib.Core.Bool.{Bool, true, false, not, cond}
use mathlib.Core.List.{List, [], ◌∷◌, ◌++◌, map}
use Rattle.std.specs.Prelude.{Option, None, Some}
use native.Mathlib.Omega.{arith}
use native.Mathlib.Numerals.{add-one}
use native.Mathlib.Nat.{pow-suc, pow-le-pow_right}
use lib.ListN.{length, drop, get_or, length-append, length-map, replicate, length-replicate}
use lib.Dec.{leb, ltb, eqb, lit<}
use borrow.Author.Tests.{lt-leb, leb-true, lt-ltb, ltb-true, eqb-true, ne_eqb}
use Rattle.format.specs.Lists.{◌>>=◌, provided, cons_both, each_of}
use Rattle.format.specs.Octets.{Below, digit, letter, lowered, in_range, same_octets}
use Rattle.format.specs.Digits.{digits, number_from, number, without_zeros, upper_digit, digit_value}
use Rattle.format.specs.Number.{decimal, decimal_of, below}
use Rattle.format.specs.Hex.{hex_pair}
use Rattle.format.specs.Address.{small_number, group_of}
use Rattle.format.proofs.Lists.{and_left, and_right, bind_some, provided_some, drop_next, drop_none, same_octets_lem, octets_same}
use Rattle.format.proofs.Digits.{digits_length, digits_number, zeros_length, number_bound}
use Rattle.octets.proofs.Numbers.{value_in, value_each}
use Rattle.address.specs.declared.part.PartForm.{PartForm}
use Rattle.address.specs.declared.part.PartForm.TheVariants.{Pair, Small, Group}
use Rattle.address.specs.Part.{hex_number, zero_first, width_of, value_of, piece_of}

-- the number of hex digits that are v so far and go on with these
abbrev pub hex_from : ℕ → List ℕ → Option ℕ
hex_from v xs = value_in 16 v xs

pub hex_start : (xs : List ℕ) → hex_from 0 xs ≡ hex_number xs
hex_start xs = value_each 16 0 xs

-- the next octet is no hex digit, or it is one; or no octet is left
module _ (s : List ℕ) (j v : ℕ) where
  module _ (h : j < length s) where
    pub hex_off : digit_value 16 (get_or s j 0) ≡ None → hex_from v (drop j s) ≡ None
    unfolding value_in
    hex_off e = rw (drop_next s j h, e)

    pub hex_on : (d : ℕ) → digit_value 16 (get_or s j 0) ≡ Some d → hex_from v (drop j s) ≡ hex_from (v * 16 + d) (drop (j + 1) s)
    unfolding value_in
    hex_on d e = rw (drop_next s j h, e)

  pub hex_end : length s ≤ j → hex_from v (drop j s) ≡ Some v
  unfolding value_in
  hex_end h = rw (drop_none s j h)

-- the value so far is below 16 to the power of the digits read
pub hex_more : (v n d : ℕ) → v < 16 ^ n → d < 16 → v * 16 + d < 16 ^ (n + 1)
hex_more v n d h k = rw (add-one, pow-suc 16 n) (omega arith)

pub hex_fits : (v n : ℕ) → n < 4 → v < 16 ^ n → v < 4096
hex_fits v n h k = omega (arith, pow-le-pow_right {n = 16} (lit< tt) {i = n} {j = 3} (omega arith))

-- no octet is no group
pub empty_group : (t : List ℕ) → length t < 1 → None ≡ group_of t
empty_group t h = rw (lt-leb 1 (length t) h)

-- digits that were read are below the base
pub digit_below : (b x d : ℕ) → digit_value b x ≡ Some d → d < b
digit_below b x d e = by (digit x) (letter x) e
  where
    ok : (y : ℕ) → provided (ltb y b) y ≡ Some d → d < b
    ok y f = let r = provided_some (ltb y b) y d f in omega (arith, ltb-true y b r.0, r.1)

    by : (p q : Bool) → cond p (provided (ltb (x - 48) b) (x - 48)) (cond q (provided (ltb (lowered x - 97 + 10) b) (lowered x - 97 + 10)) None) ≡ Some d → d < b
    by true q f = ok (x - 48) f
    by false true f = ok (lowered x - 97 + 10) f
    by false false f = let z : ◌≡◌ {A = ℕ} 0 1 = cc in absurd (omega arith)

pub cons_some : (o : Option ℕ) (p : Option (List ℕ)) (ds : List ℕ) → cons_both o p ≡ Some ds → (x : ℕ) × (xs : List ℕ) × (o ≡ Some x) × (p ≡ Some xs) × (x ∷ xs ≡ ds)
cons_some None p ds e = let z : ◌≡◌ {A = ℕ} 0 1 = cc in absurd (omega arith)
cons_some (Some x) None ds e = let z : ◌≡◌ {A = ℕ} 0 1 = cc in absurd (omega arith)
cons_some (Some x) (Some xs) ds e = (x, xs, refl, refl, cc)

each_below : (b : ℕ) (t ds : List ℕ) → each_of (digit_value b) t ≡ Some ds → Below b ds × (length ds ≡ length t)
each_below b [] ds e = let q : [] ≡ ds = cc in rw (← q) (tt, refl)
each_below b (x ∷ t) ds e =
    let (d, es, f, g, q) = cons_some (digit_value b x) (each_of (digit_value b) t) ds e in
    let r = each_below b t es g in
    rw (← q) ((digit_below b x d f, r.0), ap suc r.1)

-- a pair and a small number are below 256
pub pair_octet : (t : List ℕ) (v : ℕ) → hex_pair t ≡ Some v → v < 256
pair_octet t v e = by (eqb (length t) 2) refl e
  where
    by : (b : Bool) → eqb (length t) 2 ≡ b → cond b (hex_number t) None ≡ Some v → v < 256
    by true f g =
        let (ds, h, k) = bind_some (each_of (digit_value 16) t) (λ ds. Some (number 16 ds)) v g in
        let r = each_below 16 t ds h in
        let m : length ds ≡ 2 = r.1 ∙ eqb-true (length t) 2 f in
        let w : number 16 ds ≡ v = cc in
        omega (arith, rw m at (number_bound 16 ds r.0))
    by false f g = let z : ◌≡◌ {A = ℕ} 0 1 = cc in absurd (omega arith)

pub small_octet : (t : List ℕ) (v : ℕ) → small_number t ≡ Some v → v < 256
small_octet t v e =
    let (x, f, g) = bind_some (below 256 (decimal_of t)) (λ v. provided (same_octets (decimal v) t) v) v e in
    let (y, h, k) = bind_some (decimal_of t) (λ v. provided (ltb v 256) v) x f in
    let r = provided_some (same_octets (decimal x) t) x v g in
    let q = provided_some (ltb y 256) y x k in
    omega (arith, ltb-true y 256 q.0, q.1, r.1)

-- a decimal number is printed as it was read, unless it has leading zeros
not_same : (xs ys : List ℕ) → length xs < length ys → same_octets xs ys ≡ false
not_same xs ys h = by (same_octets xs ys) refl
  where
    by : (b : Bool) → same_octets xs ys ≡ b → b ≡ false
    by true e = absurd (omega (arith, ap length (octets_same xs ys e)))
    by false e = refl

digit_char : (x d : ℕ) → digit_value 10 x ≡ Some d → x ≡ upper_digit d
digit_char x d e = by (digit x) refl (letter x) e
  where
    no : (y : ℕ) → provided (ltb (y + 10) 10) (y + 10) ≡ Some d → x ≡ upper_digit d
    no y f = let r = provided_some (ltb (y + 10) 10) (y + 10) d f in absurd (omega (arith, ltb-true (y + 10) 10 r.0))

    by : (p : Bool) → digit x ≡ p → (q : Bool) → cond p (provided (ltb (x - 48) 10) (x - 48)) (cond q (provided (ltb (lowered x - 97 + 10) 10) (lowered x - 97 + 10)) None) ≡ Some d → x ≡ upper_digit d
    by true h q f =
        let r = provided_some (ltb (x - 48) 10) (x - 48) d f in
        let k = leb-true 48 x (and_left (leb 48 x) (leb x 57) h) in
        let m : x ≡ 48 + (x - 48) = omega arith in
        rw (← r.1, r.0) m
    by false h true f = no (lowered x - 97) f
    by false h false f = let z : ◌≡◌ {A = ℕ} 0 1 = cc in absurd (omega arith)

each_char : (t ds : List ℕ) → each_of (digit_value 10) t ≡ Some ds → t ≡ map upper_digit ds
each_char [] ds e = let q : [] ≡ ds = cc in rw (← q)
each_char (x ∷ t) ds e =
    let (d, es, f, g, q) = cons_some (digit_value 10 x) (each_of (digit_value 10) t) ds e in
    rw (← q, ← (digit_char x d f), ← (each_char t es g))

zeros_below : (b k : ℕ) (ds : List ℕ) → 0 < b → Below b ds → Below b (replicate k 0 ++ ds)
zeros_below b zero ds h l = l
zeros_below b (suc k) ds h l = (h, zeros_below b k ds h l)

zeros_value : (b k : ℕ) (ds : List ℕ) → number b (replicate k 0 ++ ds) ≡ number b ds
zeros_value b zero ds = refl
zeros_value b (suc k) ds = ap (λ a. number_from b a (replicate k 0 ++ ds)) (omega arith) ∙ zeros_value b k ds

zeros_gone : (k d : ℕ) (ds : List ℕ) → without_zeros (replicate k 0 ++ d ∷ ds) ≡ without_zeros (d ∷ ds)
zeros_gone zero d ds = refl
zeros_gone (suc zero) d ds = refl
zeros_gone (suc (suc k)) d ds = zeros_gone (suc k) d ds

-- the ten digits of a number, and the text without its leading zeros
ten_digits : (ds : List ℕ) → Below 10 ds → length ds ≤ 10 → digits 10 10 (number 10 ds) ≡ replicate (10 - length ds) 0 ++ ds
ten_digits ds h l =
    let q : length (replicate (10 - length ds) 0 ++ ds) ≡ 10 = length-append (replicate (10 - length ds) 0) ds ∙ ap (λ n. n + length ds) (length-replicate (10 - length ds) 0) ∙ omega arith in
    ap (digits 10 10) (sym (zeros_value 10 (10 - length ds) ds)) ∙ ap (λ w. digits 10 w (number 10 (replicate (10 - length ds) 0 ++ ds))) (sym q)
    ∙ digits_number 10 (replicate (10 - length ds) 0 ++ ds) (zeros_below 10 (10 - length ds) ds (omega arith) h)

plainly : (ds : List ℕ) → Below 10 ds → 1 ≤ length ds → same_octets (map upper_digit (without_zeros ds)) (map upper_digit ds) ≡ not (zero_first (map upper_digit ds))
plainly [] b h = absurd (omega arith)
plainly (d ∷ []) b h = same_octets_lem (upper_digit d ∷ [])
plainly (zero ∷ e ∷ ds) b h =
    not_same (map upper_digit (without_zeros (e ∷ ds))) (map upper_digit (0 ∷ e ∷ ds)) (omega (arith, length-map (without_zeros (e ∷ ds)) upper_digit, length-map (0 ∷ e ∷ ds) upper_digit, zeros_length (e ∷ ds) (omega arith)))
plainly (suc d ∷ e ∷ ds) b h =
    let f : eqb (upper_digit (suc d)) 48 ≡ false = rw (lt-ltb (suc d) 10 b.0) (ne_eqb (48 + suc d) 48 (λ q. omega arith)) in
    same_octets_lem (map upper_digit (suc d ∷ e ∷ ds)) ∙ ap not (sym f)

spelled : (t : List ℕ) (v : ℕ) → decimal_of t ≡ Some v → same_octets (decimal v) t ≡ not (zero_first t)
spelled t v e = by (in_range 1 10 (length t)) refl e
  where
    first : (ds : List ℕ) → 1 ≤ length ds → without_zeros (replicate (10 - length ds) 0 ++ ds) ≡ without_zeros ds
    first [] h = absurd (omega arith)
    first (d ∷ ds) h = zeros_gone (10 - length (d ∷ ds)) d ds

    by : (b : Bool) → in_range 1 10 (length t) ≡ b → cond b (each_of (digit_value 10) t >>= λ ds. Some (number 10 ds)) None ≡ Some v → same_octets (decimal v) t ≡ not (zero_first t)
    by true f g =
        let (ds, h, k) = bind_some (each_of (digit_value 10) t) (λ ds. Some (number 10 ds)) v g in
        let r = each_below 10 t ds h in
        let lo = leb-true 1 (length t) (and_left (leb 1 (length t)) (leb (length t) 10) f) in
        let hi = leb-true (length t) 10 (and_right (leb 1 (length t)) (leb (length t) 10) f) in
        let w : number 10 ds ≡ v = cc in
        let one : 1 ≤ length ds = omega arith in
        let ten : length ds ≤ 10 = omega arith in
        let p : decimal v ≡ map upper_digit (without_zeros ds) = ap decimal (sym w) ∙ ap (λ l. map upper_digit (without_zeros l)) (ten_digits ds r.0 ten) ∙ ap (map upper_digit) (first ds one) in
        ap (λ l. same_octets l t) p ∙ ap (λ l. same_octets (map upper_digit (without_zeros ds)) l) (each_char t ds h) ∙ plainly ds r.0 one ∙ ap (λ l. not (zero_first l)) (sym (each_char t ds h))
    by false f g = let z : ◌≡◌ {A = ℕ} 0 1 = cc in absurd (omega arith)

-- a number 0 to 255
pub is_small : (t : List ℕ) (v : ℕ) → decimal_of t ≡ Some v → v ≤ 255 → zero_first t ≡ false → Some v ≡ small_number t
is_small t v e h f = let s : same_octets (decimal v) t ≡ true = spelled t v e ∙ ap not f in rw (e, lt-ltb v 256 (omega arith), s)

width_small : (f : PartForm) → width_of f ≤ 2
width_small Pair = omega arith
width_small Small = omega arith
width_small Group = omega arith

pub piece_short : (f : PartForm) (t xs : List ℕ) → piece_of f t ≡ Some xs → length xs ≤ 2
unfolding piece_of
piece_short f t xs e =
    let (v, a, b) = bind_some (value_of f t) (λ v. Some (digits 256 (width_of f) v)) xs e in
    let q : digits 256 (width_of f) v ≡ xs = cc in
    omega (arith, ap length q, digits_length 256 (width_of f) v, width_small f)
