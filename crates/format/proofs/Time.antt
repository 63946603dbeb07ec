-- T: read back, bounded, accepted.
use Prim.Native.Nat.{ℕ, zero, suc, ◌+◌, ◌*◌, ◌-◌, ◌/◌, ◌%◌, ◌^◌, ◌≤◌, ◌<◌}
use mathlib.Core.Path.{◌≡◌, refl, ap, ◌∙◌}
use mathlib.Core.Bool.{Bool, true, false, cond}
use mathlib.Core.List.{List, [], ◌∷◌, ◌++◌}
use Rattle.std.specs.Prelude.{Some}
use native.Mathlib.Omega.{arith}
use native.Mathlib.Nat.{div-div-eq-div-mul}
use lib.ListN.{length}
use lib.Dec.{ltb, eqb}
use borrow.Author.Tests.{lt-ltb, le-leb, ltb-true, ltb-false}
use Rattle.format.specs.Lists.{◌>>=◌, each_of}
use Rattle.format.specs.Octets.{Below, among}
use Rattle.format.specs.Field.{time}
use Rattle.format.specs.Digits.{digits, number, upper_digit, digit_value}
use Rattle.format.specs.Number.{decimal_of, below}
use Rattle.format.specs.Time.{leap, month_length, days_before, Day, day_from, day_of, moment_text, time_text, moment, moment_of, read_time}
use Rattle.format.specs.Catalogue.{TypeName}
use Rattle.format.specs.Run.{shown, read_field}
use Rattle.format.proofs.Lists.{bind_some}
use Rattle.format.proofs.Digits.{digits_length, number_digits, chars_back, number_bound}
use Rattle.format.proofs.Wire.{octets_taken}
use Rattle.format.proofs.Token.{chars_plain}
use Rattle.format.proofs.Field.{Back, FieldLaws, bare_back, width_accepted}
use Rattle.format.proofs.Number.{integers}

-- the month of a day
data Found (k d : ℕ) (r : Day) (m : ℕ) : Type 0 where
  found : days_before r.month + r.day ≡ days_before k + d → r.day < month_length r.month → r.month < m → Found k d r m

day_found : (f k d : ℕ) → days_before k + d < days_before (k + f) → Found k d (day_from f k d) (k + f)
day_found zero k d h = let e : k + 0 ≡ k = omega arith in absurd (let j : days_before k + d < days_before k = rw e at h in omega arith)
day_found (suc f) k d h = by (ltb d (month_length k)) refl (λ j. day_found f (suc k) (d - month_length k) j)
  where
    e : k + suc f ≡ suc k + f
    e = omega arith

    on : month_length k ≤ d → (r : Day) → Found (suc k) (d - month_length k) r (suc k + f) → Found k d r (k + suc f)
    on l r (found a b c) = found (omega arith) b (omega arith)

    by : (t : Bool) → ltb d (month_length k) ≡ t → (days_before (suc k) + (d - month_length k) < days_before (suc k + f) → Found (suc k) (d - month_length k) (day_from f (suc k) (d - month_length k)) (suc k + f))
        → Found k d (cond (ltb d (month_length k)) (record { month = k; day = d }) (day_from f (suc k) (d - month_length k))) (k + suc f)
    by true t ih = rw t (found refl (ltb-true d (month_length k) t) (omega arith))
    by false t ih =
        let l = ltb-false d (month_length k) t in
        let g : days_before k + d < days_before (suc k + f) = rw e at h in
        rw t (on l (day_from f (suc k) (d - month_length k)) (ih (omega arith)))

moment_back : (m e s : ℕ) → m < 1644 → e < month_length m → s < 86400
    → moment (1970 + m / 12) (m % 12 + 1) (e + 1) (s / 3600) (s / 60 % 60) (s % 60) ≡ Some ((days_before m + e) * 86400 + s)
moment_back m e s h k l =
    let i : (1970 + m / 12 - 1970) * 12 + (m % 12 + 1 - 1) ≡ m = omega arith in
    let d : s / 60 / 60 ≡ s / 3600 = div-div-eq-div-mul s 60 60 in
    rw (
      le-leb 1970 (1970 + m / 12) (omega arith),
      le-leb (1970 + m / 12) 2106 (omega arith),
      le-leb 1 (m % 12 + 1) (omega arith),
      le-leb (m % 12 + 1) 12 (omega arith),
      i,
      le-leb 1 (e + 1) (omega arith),
      le-leb (e + 1) (month_length m) (omega arith),
      le-leb (s / 3600) 23 (omega arith),
      le-leb (s / 60 % 60) 59 (omega arith),
      le-leb (s % 60) 59 (omega arith),
    )
    (ap Some (omega arith))

abbrev moment_digits : Day → ℕ → List ℕ
moment_digits r s = digits 10 4 (1970 + r.month / 12) ++ digits 10 2 (r.month % 12 + 1) ++ digits 10 2 (r.day + 1) ++ digits 10 2 (s / 3600) ++ digits 10 2 (s / 60 % 60) ++ digits 10 2 (s % 60)

moment_below : (r : Day) (s : ℕ) → Below 10 (moment_digits r s)
moment_below r s = omega arith

time_reads : (r : Day) (s n : ℕ) → r.month < 1644 → r.day < month_length r.month → s < 86400 → (days_before r.month + r.day) * 86400 + s ≡ n → n < 2 ^ 32 → r.day < 99
    → read_time (moment_text r s) ≡ Some (digits 256 4 n)
time_reads r s n h k l e f g =
    rw (
      chars_back upper_digit (digit_value 10) 10 refl (moment_digits r s) (moment_below r s),
      number_digits 10 4 (1970 + r.month / 12) (omega arith) (omega arith),
      number_digits 10 2 (r.month % 12 + 1) (omega arith) (omega arith),
      number_digits 10 2 (r.day + 1) (omega arith) (omega arith),
      number_digits 10 2 (s / 3600) (omega arith) (omega arith),
      number_digits 10 2 (s / 60 % 60) (omega arith) (omega arith),
      number_digits 10 2 (s % 60) (omega arith) (omega arith),
      moment_back r.month r.day s h k l,
      e,
      lt-ltb n (2 ^ 32) f,
    )

short_month : (a b c : Bool) → cond a (cond b 29 28) (cond c 30 31) ≤ 31
short_month true true c = omega arith
short_month true false c = omega arith
short_month false b true = omega arith
short_month false b false = omega arith

month_31 : (k : ℕ) → month_length k ≤ 31
month_31 k = short_month (eqb (k % 12) 1) (leap (1970 + k / 12)) (among (k % 12) (3 ∷ 5 ∷ 8 ∷ 10 ∷ []))

time_text_lem : (n : ℕ) → n < 2 ^ 32 → read_time (time_text n) ≡ Some (digits 256 4 n)
time_text_lem n h = by (day_of (n / 86400)) (day_found 1644 0 (n / 86400) (omega arith))
  where
    by : (r : Day) → Found 0 (n / 86400) r (0 + 1644) → read_time (moment_text r (n % 86400)) ≡ Some (digits 256 4 n)
    by r (found a b c) = time_reads r (n % 86400) n (omega arith) b (omega arith) (omega arith) h (omega (arith, month_31 r.month))

four_octets : (t p : List ℕ) → read_time t ≡ Some p → length p ≡ 4
four_octets t p e =
    let (v, a, b) = bind_some (below (2 ^ 32) (cond (eqb (length t) 14) (each_of (digit_value 10) t >>= moment_of) (decimal_of t))) (λ v. Some (digits 256 4 v)) p e in
    let q : digits 256 4 v ≡ p = cc in rw (← q) (digits_length 256 4 v)

pub time_laws : (c : List TypeName) → FieldLaws c time
unfolding Back shown read_field
time_laws c = record {
  back = λ o p b e r q t.
      let w : length p ≡ 4 = octets_taken 4 p (omega arith) e in
      let v : number 256 p < 256 ^ 4 = rw w at (number_bound 256 p b) in
      bare_back read_time (time_text (number 256 p)) p r (omega arith)
      (chars_plain upper_digit 10 refl (moment_digits (day_of (number 256 p / 86400)) (number 256 p % 86400)) (moment_below (day_of (number 256 p / 86400)) (number 256 p % 86400)))
      (time_text_lem (number 256 p) (omega arith) ∙ ap Some ((integers 4).1 p b w)) q;
  bound = λ p b e. omega arith;
  accepted = λ o n ts us p e. width_accepted 4 (omega arith) read_time four_octets ts us p e;
}
