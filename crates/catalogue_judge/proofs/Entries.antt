-- An entry by itself: `TYPE` and digits, and what makes the entry good.
use Prim.Native.Nat.{ℕ, ◌+◌, ◌-◌, ◌≤◌, ◌<◌}
use mathlib.Core.Path.{◌≡◌, refl, ap, ◌∙◌}
use mathlib.Core.Bool.{Bool, true, false, not, cond, ◌&&◌, and-false}
use mathlib.Core.List.{List}
use Rattle.std.specs.Prelude.{Option, None}
use native.Mathlib.Omega.{arith}
use lib.ListN.{length, take, drop, length-drop, drop_of_length-le}
use lib.Dec.{leb, eqb}
use borrow.Author.Tests.{le-leb}
use Rattle.format.specs.Lists.{null, all_of, span}
use Rattle.format.specs.Octets.{ascii, digit, name_octet, same_word}
use Rattle.format.specs.Grammar.{starts_with_letter}
use Rattle.format.specs.Catalogue.{is_type_number}
use Rattle.format.proofs.Lists.{and_left, and_right, drop_next}
use Rattle.octets.proofs.Slices.{lent_rest}
use Rattle.octets.proofs.Blocks.{all_length}
use Rattle.catalogue.specs.Entries.{entry_at, spelled_at}
use Rattle.catalogue_judge.specs.Judging.{word_from, good_at}
use Rattle.catalogue_judge.proofs.Words.{word_none}

-- `TYPE` and one or more digits
pub typed_short : (t : List ℕ) → length t < 5 → false ≡ is_type_number t
typed_short t h = let n : length t ≤ 4 = omega arith in rw (drop_of_length-le t n, and-false)

pub typed_long : (t : List ℕ) → 5 ≤ length t → is_type_number t ≡ same_word (take 4 t) (ascii "TYPE") && eqb (length (span digit (drop 4 t)).front) (length t - 4)
typed_long t h =
    by (same_word (take 4 t) (ascii "TYPE")) some_octet
    ∙ ap (λ b. same_word (take 4 t) (ascii "TYPE") && b) (all_length digit (drop 4 t) ∙ ap (eqb (length (span digit (drop 4 t)).front)) (length-drop 4 t))
  where
    some_octet : null (drop 4 t) ≡ false
    some_octet = rw (drop_next t 4 (omega (arith, h)))

    by : (b : Bool) → null (drop 4 t) ≡ false → (b && not (null (drop 4 t))) && all_of digit (drop 4 t) ≡ b && all_of digit (drop 4 t)
    by true e = rw e
    by false e = refl

pub typed_digits : (t : List ℕ) (k : ℕ) → 5 ≤ length t → same_word (take 4 t) (ascii "TYPE") ≡ true → k ≡ length (span digit (take (length t - 4) (drop 4 t))).front → eqb k (length t - 4) ≡ is_type_number t
typed_digits t k h e q = rw (typed_long t h, e, q, lent_rest t 4)

-- the number of the name of an entry that is good in itself
abbrev pub number_at : List ℕ → ℕ → Option ℕ
number_at names w = cond (good_at names w) (word_from 0 (spelled_at names w)) None

module _ (names : List ℕ) (w : ℕ) where
  pub alone_word : (entry_at w).start + (entry_at w).size ≤ length names → (entry_at w).type_no ≤ 65535 → is_type_number (spelled_at names w) ≡ false
      → starts_with_letter (spelled_at names w) && leb (length (spelled_at names w)) 63 ≡ true → word_from 0 (spelled_at names w) ≡ number_at names w
  alone_word i t d e =
      by (all_of name_octet (spelled_at names w)) refl
      ∙ rw (
        le-leb ((entry_at w).start + (entry_at w).size) (length names) i,
        le-leb (entry_at w).type_no 65535 t,
        d,
        and_left (starts_with_letter (spelled_at names w)) (leb (length (spelled_at names w)) 63) e,
        and_right (starts_with_letter (spelled_at names w)) (leb (length (spelled_at names w)) 63) e,
        last (all_of name_octet (spelled_at names w)),
      )
    where
      by : (m : Bool) → all_of name_octet (spelled_at names w) ≡ m → word_from 0 (spelled_at names w) ≡ cond m (word_from 0 (spelled_at names w)) None
      by true e = refl
      by false e = word_none 0 (spelled_at names w) e

      last : (m : Bool) → (m && true) && true ≡ m
      last true = refl
      last false = refl
