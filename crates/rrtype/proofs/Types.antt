-- Laws of RR types that are read.
use Prim.Native.Nat.{ℕ, ◌+◌, ◌≤◌, ◌<◌}
use mathlib.Core.Path.{◌≡◌, refl, sym, ap, ◌∙◌}
use mathlib.Core.Bool.{Bool, true, false, and-false}
use mathlib.Core.List.{List, [], ◌∷◌}
use Rattle.std.specs.Prelude.{Option, None, Some}
use native.Mathlib.Omega.{arith}
use lib.ListN.{length, take, drop, length-take}
use lib.Seq.{slice, take-take, length-take-le}
use lib.Dec.{eqb, leb}
use borrow.Author.Tests.{lt-ltb, le-leb, leb-true, ne_eqb}
use Rattle.format.specs.Octets.{lowered, same_word, ascii}
use Rattle.format.specs.Number.{decimal_of}
use Rattle.format.specs.Lists.{or_else}
use Rattle.format.specs.Rrtype.{type_number}
use Rattle.format.specs.Catalogue.{TypeName, type_number_in}
use Rattle.octets.proofs.Slices.{none as nothing, take_drop}
use Rattle.octets.proofs.Numbers.{value_from, decimal_value, nothing_left}
use Rattle.catalogue.specs.Entries.{name_number}
use Rattle.catalogue.proofs.Laws.{number_else}

-- the number of the first n digits, from which going on gives the number up to every later end
pub digits_ended : (t : List ℕ) (n v : ℕ) → n ≤ length t → n ≤ 10 → ((e : ℕ) → n ≤ e → e ≤ length t → value_from v (slice n e t) ≡ value_from 0 (slice 0 e t))
    → 0 < n → decimal_of (take n t) ≡ Some v
digits_ended t n v l h q k =
    let m = length-take-le n t l in
    decimal_value (take n t) (omega (arith, m)) (omega (arith, m)) ∙ sym (q n (omega arith) l) ∙ ap (value_from v) (nothing t n n (omega arith)) ∙ nothing_left v

-- the type that `TYPE` and the first n digits after it make
pub type_front : (t d : List ℕ) (n v : ℕ) → same_word (take 4 t) (ascii "TYPE") ≡ true → d ≡ drop 4 t → decimal_of (take n d) ≡ Some v → v < 65536
    → type_number (take (4 + n) t) ≡ Some v
type_front t d n v w e q l = rw (take-take 4 (4 + n) t (omega arith), w, ← take_drop n 4 t, ← e, q, lt-ltb v 65536 l)

-- a text of fewer than four octets is none
shorter : (xs ys : List ℕ) → length xs < length ys → same_word xs ys ≡ false
shorter [] [] h = absurd (omega arith)
shorter [] (y ∷ ys) h = refl
shorter (x ∷ xs) [] h = absurd (omega arith)
shorter (x ∷ xs) (y ∷ ys) h = rw (shorter xs ys (omega arith), and-false)

pub too_short : (t : List ℕ) → length t < 4 → None ≡ type_number t
too_short t h =
    let k : length (take 4 t) < 4 = omega (arith, length-take 4 t) in
    rw (shorter (take 4 t) (ascii "TYPE") k)

-- a letter in either case
pub other_case : (b c : ℕ) → 65 ≤ c → c ≤ 90 → (b ≡ c → ⊥) → eqb b (c + 32) ≡ eqb (lowered b) (lowered c)
other_case b c h k n = rw (le-leb 65 c h, le-leb c 90 k) (by (leb 65 b) refl (leb b 90) refl)
  where
    by : (p : Bool) → leb 65 b ≡ p → (q : Bool) → leb b 90 ≡ q → eqb b (c + 32) ≡ eqb (lowered b) (c + 32)
    by false e q f = rw e
    by true e false f = rw (e, f)
    by true e true f = let l = leb-true b 90 f in rw (e, f, ne_eqb b (c + 32) (omega arith), ne_eqb (b + 32) (c + 32) (omega arith))

-- what is not `TYPE` and digits may be a name
pub other_number : (c : List TypeName) (t : List ℕ) → type_number t ≡ None → type_number_in c t ≡ name_number c t
other_number c t q = number_else c t ∙ rw q (alone (name_number c t))
  where
    alone : (o : Option ℕ) → or_else o None ≡ o
    alone None = refl
    alone (Some x) = refl
