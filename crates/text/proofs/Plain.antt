-- Octets of a string that are printed as they are, found in blocks and one by one.
use Prim.Native.Nat.{ℕ, ◌+◌, ◌≤◌, ◌<◌}
use mathlib.Core.Path.{◌≡◌, refl, sym, ap, ◌∙◌}
use mathlib.Core.Bool.{Bool, true, false, not}
use mathlib.Core.List.{List, [], ◌∷◌, ◌++◌, append_assoc}
use native.Mathlib.Omega.{arith}
use lib.ListN.{length, take, drop, get_or}
use Rattle.std.proofs.lemmas.List.{drop-drop}
use Rattle.format.specs.Lists.{flat_map, spanning, span}
use Rattle.format.specs.Octets.{ascii, in_range, among}
use Rattle.format.specs.Text.{string_escape}
use Rattle.format.proofs.Text.{escape_bound}
use Rattle.format.proofs.Lists.{and_left, and_right, not_true, drop_next}
use Rattle.octets.proofs.Slices.{span_front, span_rest}
use Rattle.text.specs.Plain.{plain_text}

-- their text is the octets themselves
plain_escape : (x : ℕ) → plain_text x ≡ true → string_escape x ≡ x ∷ []
plain_escape x h =
    rw (not_true (among x (ascii "\"\\")) (and_right (in_range 0x20 0x7E x) (not (among x (ascii "\"\\"))) h), and_left (in_range 0x20 0x7E x) (not (among x (ascii "\"\\"))) h)

front_text : (xs : List ℕ) → flat_map string_escape xs ≡ (span plain_text xs).front ++ flat_map string_escape (span plain_text xs).rest
front_text [] = refl
front_text (x ∷ xs) = by (plain_text x) refl (front_text xs)
  where
    by : (b : Bool) → plain_text x ≡ b → flat_map string_escape xs ≡ (span plain_text xs).front ++ flat_map string_escape (span plain_text xs).rest
        → string_escape x ++ flat_map string_escape xs ≡ (spanning b x xs (span plain_text xs)).front ++ flat_map string_escape (spanning b x xs (span plain_text xs)).rest
    by true h ih = rw (plain_escape x h) (ap (λ t. x ∷ t) ih)
    by false h ih = refl

pub plain_part : (p : List ℕ) (k : ℕ) → k ≡ length (span plain_text p).front → flat_map string_escape p ≡ take k p ++ flat_map string_escape (drop k p)
plain_part p k q = rw (q, span_front plain_text p, span_rest plain_text p) (front_text p)

-- an octet that is escaped, and the plain ones after it
pub escape_then : (p : List ℕ) (j n : ℕ) → j < length p → n ≡ length (span plain_text (drop (j + 1) p)).front
    → flat_map string_escape (drop j p) ≡ (string_escape (get_or p j 0) ++ take n (drop (j + 1) p)) ++ flat_map string_escape (drop (j + (1 + n)) p)
escape_then p j n h q =
    ap (flat_map string_escape) (drop_next p j h) ∙ ap (λ t. string_escape (get_or p j 0) ++ t) (plain_part (drop (j + 1) p) n q)
    ∙ ap (λ t. string_escape (get_or p j 0) ++ (take n (drop (j + 1) p) ++ flat_map string_escape t)) (drop-drop n (j + 1) p ∙ ap (λ k. drop k p) (omega arith))
    ∙ sym (append_assoc (string_escape (get_or p j 0)) (take n (drop (j + 1) p)) (flat_map string_escape (drop (j + (1 + n)) p)))

pub escape_short : (x : ℕ) → length (string_escape x) ≤ 4
escape_short x = escape_bound 0x20 (ascii "\"\\") x
