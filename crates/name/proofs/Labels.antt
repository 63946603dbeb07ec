-- Laws of a name that is a part of a list of octets: its labels one after another, and its text.
use Prim.Native.Nat.{ℕ, zero, suc, ◌+◌, ◌-◌, ◌*◌, ◌≤◌, ◌<◌}
use mathlib.Core.Path.{◌≡◌, refl, sym, ap, subst, ◌∙◌}
use mathlib.Core.Bool.{Bool, false, ◌&&◌}
use mathlib.Core.List.{List, [], ◌∷◌, ◌++◌, map}
use native.Mathlib.Omega.{arith}
use lib.Dec.{leb}
use lib.ListN.{length, take, drop, get_or, length-append, length-drop}
use lib.Seq.{drop_at}
use Rattle.std.proofs.lemmas.List.{drop-drop}
use Rattle.format.specs.Lists.{flat_map, parted}
use Rattle.format.specs.Octets.{ascii}
use Rattle.format.specs.Wire.{label_length, label_octet, took, taken}
use Rattle.format.specs.Text.{pieces}
use Rattle.format.specs.Name.{name_escape, or_root, name_text}
use Rattle.format.proofs.Text.{escape_bound, escapes_bound, went_on, piece_taken}
use Rattle.format.proofs.Name.{name_some}
use Rattle.format.proofs.Lists.{drop_next}
use Rattle.octets.proofs.Pieces.{pieces_at, pieces_some}

-- the text has at most four octets for each octet of a label
pub escaped_length : (xs : List ℕ) → length (flat_map name_escape xs) ≤ 4 * length xs
escaped_length = escapes_bound name_escape (escape_bound 0x21 (ascii ".\\\"';()@$"))

-- Octets that are the rest of a name: the closing zero, or a label and the rest of a name.
abbrev pub Named : List ℕ → Type 0
Named xs = (b : Bool) × (t : ℕ) × (taken (label_length b t) xs ≡ took (length xs))

zero_ends : (xs : List ℕ) → Named (0 ∷ xs) → length xs ≡ 0
unfolding taken
zero_ends [] w = refl
zero_ends (x ∷ xs) (b, t, e) = let z : ◌≡◌ {A = ℕ} 0 1 = cc in absurd (omega arith)

first_label : (n : ℕ) (xs : List ℕ) → Named (suc n ∷ xs) → (suc n < length xs) × Named (drop (suc n) xs)
first_label n xs (b, t, e) =
    let u = t + 1 + suc n in
    let (s, q, f, l, g) = piece_taken (λ k. label_octet k u) (label_length false u) (λ x. refl) (λ n x. refl) (λ n. refl) n xs (went_on (label_length b t) (label_octet n u) (leb (suc n) 63 && leb (u + 1) 255) (suc n) xs (length xs) refl e).1 in
    (omega (arith, ap length f, length-append s q, name_some u q g), subst Named (sym (ap (drop (suc n)) f ∙ drop_at s q (suc n) l)) (false, u, g))

label_or_end : (c : ℕ) (xs : List ℕ) → 1 ≤ length xs → Named (c ∷ xs) → (c < length xs) × Named (drop c xs)
label_or_end zero xs h w = let z = zero_ends xs w in absurd (omega arith)
label_or_end (suc n) xs h w = first_label n xs w

-- the texts of labels, a dot after each
abbrev pub dotted : List ℕ → List ℕ
dotted xs = parted (ascii ".") (map (flat_map name_escape) (pieces xs))

dot_after : (t : List ℕ) (ts : List (List ℕ)) → 1 ≤ length ts → parted (ascii ".") (map (flat_map name_escape) (t ∷ ts)) ≡ (flat_map name_escape t ++ (46 ∷ [])) ++ parted (ascii ".") (map (flat_map name_escape) ts)
dot_after t [] h = absurd (omega arith)
dot_after t (u ∷ ts) h = refl

or_root_lem : (t : List ℕ) → 1 ≤ length t → t ≡ or_root t
or_root_lem [] h = absurd (omega arith)
or_root_lem (x ∷ t) h = refl

-- what is left of a name from j on: a label, and the rest of the name after it
module _ (p : List ℕ) (j : ℕ) where
  pub label_at : j + 1 < length p → Named (drop j p) → (j + 1 + get_or p j 0 < length p) × Named (drop (j + 1 + get_or p j 0) p)
  label_at h w =
      let (a, v) = label_or_end (get_or p j 0) (drop (j + 1) p) (omega (arith, length-drop (j + 1) p)) (subst Named (drop_next p j (omega arith)) w) in
      (omega (arith, length-drop (j + 1) p), subst Named (drop-drop (get_or p j 0) (j + 1) p) v)

  pub dotted_next : (k : ℕ) → k ≡ j + 1 + get_or p j 0 → k < length p → dotted (drop j p) ≡ (flat_map name_escape (take (k - (j + 1)) (drop (j + 1) p)) ++ (46 ∷ [])) ++ dotted (drop k p)
  dotted_next k q h =
      let n : k - (j + 1) ≡ get_or p j 0 = omega arith in
      let e : j + 1 + (k - (j + 1)) ≡ k = omega arith in
      ap (λ ts. parted (ascii ".") (map (flat_map name_escape) ts)) (pieces_at p j (k - (j + 1)) n (omega arith))
      ∙ dot_after (take (k - (j + 1)) (drop (j + 1) p)) (pieces (drop (j + 1 + (k - (j + 1))) p)) (rw e more)
      ∙ ap (λ i. (flat_map name_escape (take (k - (j + 1)) (drop (j + 1) p)) ++ (46 ∷ [])) ++ dotted (drop i p)) e
    where
      more : 1 ≤ length (pieces (drop k p))
      more = subst (λ xs. 1 ≤ length (pieces xs)) (sym (drop_next p k h)) (pieces_some (get_or p k 0) (drop (k + 1) p))

-- after the last label there is nothing to print
pub dotted_none : (xs : List ℕ) → length xs ≡ 1 → dotted xs ≡ []
dotted_none [] h = absurd (omega arith)
dotted_none (x ∷ []) h = refl
dotted_none (x ∷ y ∷ xs) h = absurd (omega arith)

-- the text of a name that has labels
text_some : (xs : List ℕ) → 1 < length xs → Named xs → 1 ≤ length (dotted xs)
text_some xs h w =
    let k = 0 + 1 + get_or xs 0 0 in
    let t = flat_map name_escape (take (k - (0 + 1)) (drop (0 + 1) xs)) in
    omega (arith, ap length (dotted_next xs 0 k refl (label_at xs 0 h w).0), length-append (t ++ (46 ∷ [])) (dotted (drop k xs)), length-append t (46 ∷ []))

pub labels_text : (xs : List ℕ) → 1 < length xs → Named xs → dotted xs ≡ name_text xs
labels_text xs h w = or_root_lem (dotted xs) (text_some xs h w) ∙ by xs (omega arith)
  where
    by : (t : List ℕ) → 1 ≤ length t → or_root (dotted t) ≡ name_text t
    by [] z = absurd (omega arith)
    by (x ∷ t) z = refl
