-- Laws of text that is stored into a buffer, whole or in pieces, and of a part of a buffer that is lent to a writer.
use Prim.Native.Nat.{ℕ, zero, suc, min, ◌+◌, ◌-◌, ◌<◌, ◌≤◌}
use mathlib.Core.Path.{◌≡◌, refl, sym, ap, subst, ◌∙◌}
use mathlib.Core.List.{List, [], ◌∷◌, ◌++◌, append-nil}
use native.Mathlib.Nat.{add-zero, le_of_suc-le-suc, not-suc-le-zero, le_refl}
use native.Mathlib.Numerals.{add-one}
use native.Mathlib.Omega.{arith}
use native.Mathlib.Decide.{dec_le}
use lib.ListN.{length, take, drop, get_or, set, length-set, length-append, length-drop, drop_of_length-le}
use lib.Seq.{sets, set_out, set_comm, take_all, length-sets}
use Rattle.buffer.specs.Writing.{Wrote}
pub use Rattle.format.proofs.Lists.{drop_next as next, drop_none as none}

-- storing one text after another; past the end; into the rest; an octet before a text
sets_append : (o : List ℕ) (n : ℕ) (s t : List ℕ) → sets o n (s ++ t) ≡ sets (sets o n s) (n + length s) t
sets_append o n [] t = rw add-zero
sets_append o n (b ∷ s) t = sets_append (set o n b) (suc n) s t ∙ ap (λ (k : ℕ). sets (sets (set o n b) (suc n) s) k t) (omega arith)

sets_out : (xs : List ℕ) (n : ℕ) (t : List ℕ) → length xs ≤ n → sets xs n t ≡ xs
sets_out xs n [] h = refl
sets_out xs n (b ∷ t) h =
    ap (λ (l : List ℕ). sets l (suc n) t) (set_out xs n b h) ∙ sets_out xs (suc n) t (omega arith)

pub sets_cons : (x : ℕ) (xs : List ℕ) (n : ℕ) (t : List ℕ) → sets (x ∷ xs) (suc n) t ≡ x ∷ sets xs n t
sets_cons x xs n [] = refl
sets_cons x xs n (b ∷ t) = sets_cons x (set xs n b) (suc n) t

sets_drop : (a : ℕ) (xs t : List ℕ) → a ≤ length xs → sets xs a t ≡ take a xs ++ sets (drop a xs) 0 t
sets_drop zero xs t h = refl
sets_drop (suc a) [] t h = absurd (not-suc-le-zero h)
sets_drop (suc a) (x ∷ xs) t h = sets_cons x xs a t ∙ ap (λ (l : List ℕ). x ∷ l) (sets_drop a xs t (le_of_suc-le-suc h))

pub set_before : (o : List ℕ) (i n b : ℕ) (t : List ℕ) → i < n → set (sets o n t) i b ≡ sets (set o i b) n t
set_before o i n b [] h = refl
set_before o i n b (x ∷ t) h =
    set_before (set o n x) i (suc n) b t (omega arith) ∙ ap (λ (l : List ℕ). sets l (suc n) t) (set_comm o n i x b (λ q. omega arith))

-- an octet after a text may be stored first
set_after : (o : List ℕ) (i n b : ℕ) (t : List ℕ) → n + length t ≤ i → set (sets o n t) i b ≡ sets (set o i b) n t
set_after o i n b [] h = refl
set_after o i n b (x ∷ t) h =
    set_after (set o n x) i (suc n) b t (omega arith) ∙ ap (λ (l : List ℕ). sets l (suc n) t) (set_comm o n i x b (λ q. omega arith))

pub sets_last : (o : List ℕ) (n : ℕ) (t : List ℕ) (b : ℕ) → sets o n (t ++ b ∷ []) ≡ sets (set o (n + length t) b) n t
sets_last o n t b = sets_append o n t (b ∷ []) ∙ set_after o (n + length t) n b t (omega arith)

-- writers that store nothing, one octet, two, or one text after another
pub wrote_none : (o : List ℕ) (n : ℕ) → Wrote o o n n []
wrote_none o n = record { octets = refl; count = omega arith }

pub wrote_one : (o o' : List ℕ) (n b : ℕ) → o' ≡ set o n b → Wrote o o' n (n + 1) (b ∷ [])
wrote_one o o' n b p = record { octets = p; count = refl }

pub wrote_two : (o o₁ o₂ : List ℕ) (n a b : ℕ) → o₁ ≡ set o n a → o₂ ≡ set o₁ (n + 1) b → Wrote o o₂ n (n + 2) (a ∷ b ∷ [])
wrote_two o o₁ o₂ n a b p q = record { octets = rw (q, p, add-one); count = refl }

pub wrote_append : {o o₁ o₂ : List ℕ} {n m r : ℕ} {s t : List ℕ} → Wrote o o₁ n m s → Wrote o₁ o₂ m r t → Wrote o o₂ n r (s ++ t)
wrote_append {o} {o₁} {o₂} {n} {m} {r} {s} {t} w v = record {
  octets = v.octets ∙ ap (λ (x : List ℕ). sets x m t) w.octets ∙ ap (λ (k : ℕ). sets (sets o n s) k t) w.count ∙ sym (sets_append o n s t);
  count = omega (arith, v.count, w.count, length-append s t);
}

pub wrote_length : {o o' : List ℕ} {n r : ℕ} {t : List ℕ} → Wrote o o' n r t → length o' ≡ length o
wrote_length {o} {o'} {n} {r} {t} w = ap length w.octets ∙ length-sets o n t

pub wrote_text : {o o' : List ℕ} {n r : ℕ} (s t : List ℕ) → s ≡ t → Wrote o o' n r s → Wrote o o' n r t
wrote_text {o} {o'} {n} {r} s t e w = subst (λ (x : List ℕ). Wrote o o' n r x) e w

-- for what follows a text there is no room
pub wrote_out : {o o' : List ℕ} {n m : ℕ} {s : List ℕ} (r : ℕ) (t : List ℕ) → Wrote o o' n m s → length o ≤ m → r ≡ m + length t → Wrote o o' n r (s ++ t)
wrote_out {o} {o'} {n} {m} {s} r t w h e = record {
  octets = w.octets ∙ sym (sets_append o n s t ∙ sets_out (sets o n s) (n + length s) t (omega (arith, length-sets o n s, w.count)));
  count = omega (arith, w.count, length-append s t);
}

-- an octet may be stored after the text that follows it, once that is known not to be empty
pub wrote_before : {o o₁ : List ℕ} {n r : ℕ} {t : List ℕ} (o₂ : List ℕ) (b : ℕ) → Wrote o o₁ (n + 1) r t → o₂ ≡ set o₁ n b → Wrote o o₂ n r (b ∷ t)
wrote_before {o} {o₁} {n} {r} {t} o₂ b w p = record {
  octets = p ∙ ap (λ (l : List ℕ). set l n b) w.octets ∙ set_before o n (n + 1) b t (omega arith) ∙ ap (λ (k : ℕ). sets (set o n b) k t) (add-one n);
  count = omega (arith, w.count);
}

-- In a loop that writes a text at `start`: if `rest` is now written at n, then the whole text is.
pub record Left (o₀ : List ℕ) (start : ℕ) (text o : List ℕ) (n : ℕ) (rest : List ℕ) : Type 0 where
  pub octets : sets o n rest ≡ sets o₀ start text
  pub count : n + length rest ≡ start + length text
  pub kept : length o ≡ length o₀

pub left_all : (o : List ℕ) (n : ℕ) (t : List ℕ) → Left o n t o n t
left_all o n t = record { octets = refl; count = refl; kept = refl }

pub left_one : {o₀ text o t : List ℕ} {start n : ℕ} (o' : List ℕ) (b : ℕ) (rest : List ℕ) → Left o₀ start text o n t → t ≡ b ∷ rest → o' ≡ set o n b
    → Left o₀ start text o' (n + 1) rest
left_one {o₀} {text} {o} {t} {start} {n} o' b rest l e p = record {
  octets = rw (p, add-one) (ap (sets o n) (sym e) ∙ l.octets);
  count = omega (arith, l.count, ap length e);
  kept = ap length p ∙ length-set o n b ∙ l.kept;
}

-- a piece is written by a callee
pub left_piece : {o₀ text o t : List ℕ} {start n : ℕ} (o' : List ℕ) (r : ℕ) (piece rest : List ℕ) → Left o₀ start text o n t → t ≡ piece ++ rest → Wrote o o' n r piece
    → Left o₀ start text o' r rest
left_piece {o₀} {text} {o} {t} {start} {n} o' r piece rest l e w = record {
  octets = ap (λ (x : List ℕ). sets x r rest) w.octets ∙ ap (λ (k : ℕ). sets (sets o n piece) k rest) w.count ∙ sym (sets_append o n piece rest) ∙ ap (sets o n) (sym e) ∙ l.octets;
  count = omega (arith, w.count, l.count, ap length e, length-append piece rest);
  kept = wrote_length w ∙ l.kept;
}

pub left_none : {o₀ text o t : List ℕ} {start n : ℕ} → Left o₀ start text o n t → t ≡ [] → Wrote o₀ o start n text
left_none {o₀} {text} {o} {t} {start} {n} l e = record {
  octets = ap (sets o n) (sym e) ∙ l.octets;
  count = omega (arith, l.count, ap length e);
}

-- the part from a on is the whole rest
rest_whole : (xs : List ℕ) (a : ℕ) → take (length xs - a) (drop a xs) ≡ drop a xs
rest_whole xs a = take_all _ _ (subst (λ (k : ℕ). k ≤ length xs - a) (sym (length-drop a xs)) (le_refl _))

home : (xs ys : List ℕ) (a : ℕ) → take a xs ++ (ys ++ drop (length xs - a) (drop a xs)) ≡ take a xs ++ ys
home xs ys a =
    ap (λ (l : List ℕ). take a xs ++ (ys ++ l)) (drop_of_length-le (drop a xs) (subst (λ (k : ℕ). k ≤ length xs - a) (sym (length-drop a xs)) (le_refl _)))
    ∙ ap (λ (l : List ℕ). take a xs ++ l) (append-nil ys)

-- a text that is stored at the start of the part from min at (length xs) on stands at the place `at` of the whole
at_place : (xs t : List ℕ) (at a : ℕ) → a ≡ min at (length xs) → take a xs ++ sets (drop a xs) 0 t ≡ sets xs at t
at_place xs t at a e = by (dec_le at (length xs))
  where
    by : Dec (at ≤ length xs) → take a xs ++ sets (drop a xs) 0 t ≡ sets xs at t
    by (yes h) = let q : a ≡ at = omega arith in rw q (sym (sets_drop at xs t h))
    by (no h) =
        let q : a ≡ length xs = omega arith in
        sym (sets_drop a xs t (omega arith)) ∙ sets_out xs a t (omega arith) ∙ sym (sets_out xs at t (omega arith))

-- so does what a writer leaves that is lent that part
pub part_wrote : (xs ys : List ℕ) (at a w : ℕ) (t : List ℕ) → a ≡ min at (length xs) → Wrote (take (length xs - a) (drop a xs)) ys 0 w t
    → Wrote xs (take a xs ++ (ys ++ drop (length xs - a) (drop a xs))) at (at + w) t
part_wrote xs ys at a w t e v = record {
  octets = home xs ys a ∙ ap (λ (l : List ℕ). take a xs ++ l) (v.octets ∙ ap (λ (l : List ℕ). sets l 0 t) (rest_whole xs a)) ∙ at_place xs t at a e;
  count = omega (arith, v.count);
}

-- a writer that is lent the empty part at the end leaves the whole as it was
pub measured : (xs ys : List ℕ) (w : ℕ) (t : List ℕ) → Wrote (take (length xs - length xs) (drop (length xs) xs)) ys 0 w t
    → take (length xs) xs ++ (ys ++ drop (length xs - length xs) (drop (length xs) xs)) ≡ xs
measured xs ys w t v = (part_wrote xs ys (length xs) (length xs) w t (omega arith) v).octets ∙ sets_out xs (length xs) t (le_refl (length xs))

-- in a loop over a text: its next octet is stored, and none is left
pub left_next : {o₀ o : List ℕ} {start i : ℕ} (text o' : List ℕ) → Left o₀ start text o (start + i) (drop i text) → i < length text → o' ≡ set o (start + i) (get_or text i 0)
    → Left o₀ start text o' (start + (i + 1)) (drop (i + 1) text)
left_next {start = start} {i} text o' l h p = let z : start + i + 1 ≡ start + (i + 1) = omega arith in rw (← z) (left_one o' (get_or text i 0) (drop (i + 1) text) l (next text i h) p)

pub left_over : {o₀ o : List ℕ} {start i : ℕ} (text : List ℕ) → Left o₀ start text o (start + i) (drop i text) → length text ≤ i → Wrote o₀ o start (start + length text) text
left_over {start = start} {i} text l h = record {
  octets = (left_none l (none text i h)).octets;
  count = refl;
}
