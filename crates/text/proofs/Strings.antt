-- Laws of strings that are parts of a list of octets: their texts, the lengths of these, and several strings in a row.
use Prim.Native.Nat.{ℕ, zero, suc, ◌+◌, ◌-◌, ◌*◌, ◌≤◌, ◌<◌}
use mathlib.Core.Path.{◌≡◌, refl, sym, ap, subst, ◌∙◌}
use mathlib.Core.Bool.{Bool, true, false}
use mathlib.Core.List.{List, [], ◌∷◌, ◌++◌, map, append_assoc, append-nil}
use native.Mathlib.Omega.{arith}
use lib.ListN.{length, take, drop, get_or, length-append, length-drop}
use lib.Seq.{drop_at}
use Rattle.std.proofs.lemmas.List.{drop-drop}
use Rattle.format.specs.Lists.{flat_map, parted}
use Rattle.format.specs.Octets.{ascii}
use Rattle.format.specs.Wire.{string_count, string_octet, took, taken}
use Rattle.format.specs.Text.{pieces, string_escape, string_text}
use Rattle.format.proofs.Text.{escapes_bound, went_on, piece_taken}
use Rattle.format.proofs.Wire.{at_end_lem}
use Rattle.format.proofs.Lists.{drop_next, drop_none}
use Rattle.octets.proofs.Pieces.{pieces_at}
use Rattle.text.proofs.Plain.{escape_short}

-- a string's text has at most four octets for each octet, and two quotes
pub escapes_length : (xs : List ℕ) → length (flat_map string_escape xs) ≤ 4 * length xs
escapes_length = escapes_bound string_escape escape_short

pub string_length : (xs : List ℕ) → length (string_text xs) ≤ 4 * length xs + 2
string_length xs = omega (arith, escapes_length xs, length-append (flat_map string_escape xs) (34 ∷ []))

-- Octets that is whole strings: the first fits in it, and the rest is whole strings.
abbrev pub Whole : List ℕ → Type 0
Whole xs = (b : Bool) × (taken (string_count b) xs ≡ took (length xs))

first_whole : (c : ℕ) (xs : List ℕ) → Whole (c ∷ xs) → (c ≤ length xs) × Whole (drop c xs)
first_whole zero xs (b, e) = (omega arith, (true, (went_on (string_count b) (string_count true) true zero xs (length xs) refl e).1))
first_whole (suc n) xs (b, e) =
    let (s, q, f, l, t) = piece_taken string_octet (string_count true) (λ x. refl) (λ n x. refl) (λ n. refl) n xs (went_on (string_count b) (string_octet n) true (suc n) xs (length xs) refl e).1 in
    (omega (arith, ap length f, length-append s q), subst Whole (sym (ap (drop (suc n)) f ∙ drop_at s q (suc n) l)) (true, t))

pub whole_at : (p : List ℕ) (j : ℕ) → j < length p → Whole (drop j p) → (j + 1 + get_or p j 0 ≤ length p) × Whole (drop (j + 1 + get_or p j 0) p)
whole_at p j h w =
    let (a, v) = first_whole (get_or p j 0) (drop (j + 1) p) (subst Whole (drop_next p j h) w) in
    (omega (arith, length-drop (j + 1) p), subst Whole (drop-drop (get_or p j 0) (j + 1) p) v)

-- there is at least one string
pub some_string : (xs : List ℕ) → taken (string_count false) xs ≡ took (length xs) → 0 < length xs
some_string [] w = let z : ◌≡◌ {A = ℕ} 0 1 = cc (at_end_lem (string_count false) 0 w).0 in absurd (omega arith)
some_string (x ∷ xs) w = omega arith

-- the texts of the strings after the first, a space before each
abbrev pub others : List (List ℕ) → List ℕ
others ts = flat_map (λ t. 32 ∷ string_text t) ts

first_others : (s : List ℕ) (ts : List (List ℕ)) → parted (ascii " ") (map string_text (s ∷ ts)) ≡ string_text s ++ others ts
first_others s [] = sym (append-nil (string_text s))
first_others s (t ∷ ts) = ap (λ r. (string_text s ++ (32 ∷ [])) ++ r) (first_others t ts) ∙ append_assoc (string_text s) (32 ∷ []) (string_text t ++ others ts)

-- the first string and the others, and each of these in turn
module _ (p : List ℕ) (j k : ℕ) (q : k ≡ j + 1 + get_or p j 0) (h : k ≤ length p) where
  pub pieces_next : pieces (drop j p) ≡ take (k - (j + 1)) (drop (j + 1) p) ∷ pieces (drop k p)
  pieces_next =
      let e : j + 1 + (k - (j + 1)) ≡ k = omega arith in
      pieces_at p j (k - (j + 1)) (omega arith) (omega arith) ∙ ap (λ i. take (k - (j + 1)) (drop (j + 1) p) ∷ pieces (drop i p)) e

  pub others_next : others (pieces (drop j p)) ≡ ((32 ∷ []) ++ string_text (take (k - (j + 1)) (drop (j + 1) p))) ++ others (pieces (drop k p))
  others_next = ap others pieces_next

pub strings_text : (p : List ℕ) (k : ℕ) → k ≡ 1 + get_or p 0 0 → k ≤ length p → parted (ascii " ") (map string_text (pieces p)) ≡ string_text (take (k - 1) (drop 1 p)) ++ others (pieces (drop k p))
strings_text p k q h = ap (λ ts. parted (ascii " ") (map string_text ts)) (pieces_next p 0 k q h) ∙ first_others (take (k - 1) (drop 1 p)) (pieces (drop k p))

pub others_none : (p : List ℕ) (j : ℕ) → length p ≤ j → others (pieces (drop j p)) ≡ []
others_none p j h = ap (λ t. others (pieces t)) (drop_none p j h)
