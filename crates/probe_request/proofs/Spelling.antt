-- Laws of the octets that a word spells.
use Rattle.std.proofs.Common.{◌≡◌, ℕ, ◌*◌, ◌≤◌, Bool, true, false, List, [], ◌∷◌, length, eqb, arith, refl, ap}
use Rattle.std.specs.Prelude.{Option, None, Some}
use Rattle.format.specs.Lists.{provided, cons_both}
use Rattle.format.specs.Hex.{hex_pair, from_hex}
use Rattle.buffer.specs.Writing.{Values}
use Rattle.probe_request.specs.Request.{octets_of, said}
use Rattle.probe_request.specs.Words.{words_of, NextWord, Spells}
use Rattle.probe_request.proofs.Words.{some_said}

-- a word of more than one octet is in hex
pub more_octets_lem : (t : List ℕ) → 2 ≤ length t → octets_of t ≡ from_hex t
more_octets_lem [] h = absurd (omega arith)
more_octets_lem (x ∷ []) h = absurd (omega arith)
more_octets_lem (x ∷ y ∷ t) h = refl

-- a word has at least two digits for each octet
hex_half : (s xs : List ℕ) → from_hex s ≡ Some xs → 2 * length xs ≤ length s
hex_half [] xs e = let q : [] ≡ xs = cc in rw (← q) (omega arith)
hex_half (a ∷ []) xs e = cc
hex_half (a ∷ b ∷ s) xs e = by (hex_pair (a ∷ b ∷ [])) (from_hex s) (hex_half s) e
  where
    by : (p : Option ℕ) (o : Option (List ℕ)) → ((ys : List ℕ) → o ≡ Some ys → 2 * length ys ≤ length s) → cons_both p o ≡ Some xs → 2 * length xs ≤ length (a ∷ b ∷ s)
    by None o ih q = cc
    by (Some x) None ih q = cc
    by (Some x) (Some ys) ih q = let r : x ∷ ys ≡ xs = cc in omega (arith, ih ys refl, ap length r)

word_half : (s xs : List ℕ) → octets_of s ≡ Some xs → 2 * length xs ≤ length s
word_half [] xs e = cc
word_half (x ∷ []) xs e = by (eqb x 45) e
  where
    by : (b : Bool) → provided b [] ≡ Some xs → 2 * length xs ≤ 1
    by true q = let r : [] ≡ xs = cc in omega (arith, ap length r)
    by false q = cc
word_half (x ∷ y ∷ s) xs e = hex_half (x ∷ y ∷ s) xs e

pub spells : {rest w l before after : List ℕ} {n m : ℕ} → NextWord rest w l → Values before after n (Some m) (octets_of w) → Spells (said octets_of (words_of rest)) rest before after n m l
spells {w = w} h (xs, e, v) = record {
  octets = xs;
  reads = some_said octets_of h xs e;
  wrote = v;
  fits = omega (arith, v.count, word_half w xs e, h.octets);
}
