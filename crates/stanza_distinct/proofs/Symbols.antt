-- Symbols recognized in one pass: a name, `=`, digits, and a comma or the end.
use Prim.Native.Nat.{ℕ, ◌+◌, ◌≤◌, ◌<◌}
use Prim.Native.Char.{code}
use mathlib.Core.Path.{◌≡◌, refl, sym, ap, ◌∙◌}
use mathlib.Core.Bool.{Bool, true, false, not, true≢false}
use mathlib.Core.List.{List, [], ◌∷◌}
use Rattle.std.specs.Prelude.{Some}
use native.Mathlib.Omega.{arith}
use lib.ListN.{length, get_or}
use lib.Seq.{slice}
use lib.Dec.{eqb}
use borrow.Author.Tests.{eqb-true, lt-ltb}
use Rattle.format.specs.Lists.{all_of}
use Rattle.format.specs.Octets.{digit, name_octet}
use Rattle.format.specs.Number.{decimal_of}
use Rattle.format.specs.Field.{Part}
use Rattle.format.specs.Grammar.{symbol, qualifier}
use Rattle.format.proofs.Lists.{and_left, and_right}
use Rattle.octets.specs.Octets.{front_end}
use Rattle.octets.proofs.Slices.{front_on, front_off, front_within}
use Rattle.octets.proofs.Blocks.{all_front}
use Rattle.stanza_words.specs.Qualifiers.{holds_of}
use Rattle.stanza_distinct.specs.Distinct.{comma_at, Placed}
use Rattle.stanza_words.specs.declared.Test.TheVariants.{NotSymbol}
use Rattle.stanza_words.proofs.Laws.{not_comma, begins, all_passes, found_number}

-- octets that pass a test that a comma fails
module _ (f : ℕ → Bool) (k : f (code ",") ≡ false) where
  other_octet : (x : ℕ) → f x ≡ true → not_comma x ≡ true
  other_octet x h = by (eqb x (code ",")) refl
    where
      by : (t : Bool) → eqb x (code ",") ≡ t → not t ≡ true
      by true e = let q : x ≡ code "," = eqb-true x (code ",") e in absurd (true≢false (sym h ∙ ap f q ∙ k))
      by false e = refl

  no_commas : (xs : List ℕ) → all_of f xs ≡ true → all_of not_comma xs ≡ true
  no_commas [] h = refl
  no_commas (x ∷ xs) h = rw (other_octet x (and_left (f x) (all_of f xs) h), no_commas xs (and_right (f x) (all_of f xs) h))

module _ (s : List ℕ) (i b n z : ℕ) (h : i ≤ b) (l : b ≤ length s) (q : n ≡ front_end name_octet s i b) (g : begins (slice i n s) ≡ true)
    (there : n < b) (o : get_or s n 0 ≡ 61) (d : z ≡ front_end digit s (n + 1) b) (t : z ≡ comma_at s z b) where
  from : i ≤ n
  from = omega arith

  upto : (n + 1 ≤ z) × (z ≤ b)
  upto = (omega arith, omega (arith, front_within digit s (n + 1) b (omega (arith, there)) l))

  named : all_of name_octet (slice i n s) ≡ true
  named = ap (λ m. all_of name_octet (slice i m s)) q ∙ all_passes name_octet s i b h l

  counted : all_of digit (slice (n + 1) z s) ≡ true
  counted = ap (λ m. all_of digit (slice (n + 1) m s)) d ∙ all_passes digit s (n + 1) b (omega (arith, there)) l

  equals : not_comma (get_or s n 0) ≡ true
  equals = ap not_comma o

  ended : z ≡ comma_at s i b
  ended =
      t ∙ all_front not_comma s (n + 1) z b upto.0 upto.1 l (no_commas digit refl (slice (n + 1) z s) counted)
      ∙ front_on not_comma s n b there l equals
      ∙ all_front not_comma s i n b from (omega (arith, there)) l (no_commas name_octet refl (slice i n s) named)

  name_end_lem : n ≡ front_end name_octet s i z
  name_end_lem =
      front_off name_octet s n z (omega (arith, upto)) (omega (arith, upto)) (ap name_octet o)
      ∙ all_front name_octet s i n z from (omega (arith, upto)) (omega (arith, upto)) named

  pub symbol_found : (v : ℕ) → decimal_of (slice (n + 1) z s) ≡ Some v → Placed s i b (record { name_end = n; end = z; number = v })
  symbol_found v e = record {
    ends = ended;
    name = name_end_lem;
    is = sym (found_number s i z n (omega (arith, upto, from)) (omega (arith, upto)) name_end_lem g v (omega (arith, upto)) o e);
  }

-- a symbol whose number is below the limit
pub below_limit : (limit : ℕ) (p w : Part) (v : ℕ) → qualifier p ≡ Some (symbol (record { spelling = w; value = v })) → v < limit → holds_of (NotSymbol limit) (qualifier p) ≡ false
below_limit limit p w v q h = rw (q, lt-ltb v limit h)
