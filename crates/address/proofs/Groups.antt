-- AAAA: its groups, on one side of a double colon or on both.
use Prim.Native.Nat.{ℕ, zero, suc, ◌+◌, ◌*◌, ◌-◌, ◌≤◌, ◌<◌}
use mathlib.Core.Path.{◌≡◌, refl, sym, ap, ◌∙◌}
use mathlib.Core.Bool.{Bool, true, false}
use mathlib.Core.List.{List, [], ◌∷◌, ◌++◌, append_assoc}
use Rattle.std.specs.Prelude.{Option, None, Some}
use native.Mathlib.Omega.{arith}
use lib.Dec.{leb, eqb}
use lib.ListN.{length, set, replicate, length-append}
use lib.Seq.{sets, set-set}
use borrow.Author.Tests.{le-leb, lt-leb, leb-true, leb-false, eqb-true, eqb-false, eq-eqb, ne_eqb}
use Rattle.format.specs.Lists.{◌>>=◌, provided, cons_both, each_of, exactly}
use Rattle.format.specs.Octets.{Below, split_on}
use Rattle.format.specs.Digits.{digits}
use Rattle.format.specs.Address.{small_number, read_a, groups, group_octets, group_of, groups_of, side_of, single, double, at_double_colon, eight_groups, read_aaaa}
use Rattle.format.proofs.Lists.{bind_some, provided_some}
use Rattle.format.proofs.Field.{exactly_length}
use Rattle.format.proofs.Address.{pair_back, groups_length}
use Rattle.octets.proofs.Lines.{cut_first}
use Rattle.buffer.specs.Writing.{Wrote, Values, after}
use Rattle.buffer.proofs.Laws.{wrote_append, set_before}
use Rattle.address.specs.declared.part.PartForm.TheVariants.{Small, Group}
use Rattle.address.specs.Part.{piece_of, parts_of}
use Rattle.address.specs.Address.{octets_in, last_in, groups_in, side_in, sixteen, filled, both_sides}
use Rattle.buffer.proofs.Values.{begun_none, begun_piece, begun_rest}
use Rattle.address.proofs.Numbers.{small_octet}
use Rattle.address.proofs.Addresses.{each_octet, a_parts}

-- four octets are two groups
four_back : (xs : List ℕ) → length xs ≡ 4 → Below 256 xs → group_octets (groups xs) ≡ xs
four_back [] l b = absurd (omega arith)
four_back (x ∷ []) l b = absurd (omega arith)
four_back (x ∷ y ∷ []) l b = absurd (omega arith)
four_back (x ∷ y ∷ z ∷ []) l b = absurd (omega arith)
four_back (x ∷ y ∷ z ∷ w ∷ []) l b =
    ap (λ t. t ++ (digits 256 2 (z * 256 + w) ++ [])) (pair_back x y b.0 b.1.0) ∙ ap (λ t. x ∷ y ∷ (t ++ [])) (pair_back z w b.1.1.0 b.1.1.1.0)
four_back (x ∷ y ∷ z ∷ w ∷ v ∷ xs) l b = absurd (omega arith)

tail_back : (t : List ℕ) → octets_in (read_a t >>= λ xs. Some (groups xs)) ≡ read_a t
tail_back t = by (read_a t) refl
  where
    by : (o : Option (List ℕ)) → read_a t ≡ o → octets_in (o >>= λ xs. Some (groups xs)) ≡ o
    by None e = refl
    by (Some xs) e =
        let (ys, a, b) = bind_some (each_of small_number (split_on 46 t)) (λ l. provided (eqb (length l) 4) l) xs e in
        let q = (provided_some (eqb (length ys) 4) ys xs b).1 in
        ap Some (four_back xs (exactly_length 4 (each_of small_number (split_on 46 t)) xs e) (rw q at (each_octet small_number small_octet (split_on 46 t) ys a)))

-- the last part
module _ (t : List ℕ) where
  pub last_group : (tail : Bool) (v : ℕ) → group_of t ≡ Some v → last_in tail t ≡ Some (digits 256 2 v)
  unfolding last_in
  last_group tail v e = rw e

  pub last_tail : group_of t ≡ None → parts_of Small 4 t ≡ last_in true t
  unfolding last_in
  last_tail e = rw e (a_parts t ∙ sym (tail_back t))

  pub last_none : group_of t ≡ None → last_in false t ≡ None
  unfolding last_in
  last_none e = rw e

-- a group and those after it
first_octets : (g : ℕ) (o : Option (List ℕ)) → octets_in (cons_both (Some g) o) ≡ after (digits 256 2 g) (octets_in o)
first_octets g None = refl
first_octets g (Some gs) = refl

octets_cons : (a xs : List ℕ) (o : Option (List ℕ)) → piece_of Group a ≡ Some xs → octets_in (cons_both (group_of a) o) ≡ after xs (octets_in o)
unfolding piece_of
octets_cons a xs o e =
    let (g, f, h) = bind_some (group_of a) (λ v. Some (digits 256 2 v)) xs e in
    let q : digits 256 2 g ≡ xs = cc in
    ap (λ p. octets_in (cons_both p o)) f ∙ first_octets g o ∙ ap (λ l. after l (octets_in o)) q

octets_none : (a : List ℕ) (o : Option (List ℕ)) → piece_of Group a ≡ None → octets_in (cons_both (group_of a) o) ≡ None
unfolding piece_of
octets_none a o e = by (group_of a) e
  where
    by : (p : Option ℕ) → (p >>= λ v. Some (digits 256 2 v)) ≡ None → octets_in (cons_both p o) ≡ None
    by None f = refl
    by (Some g) f = let z : ◌≡◌ {A = ℕ} 0 1 = cc in absurd (omega arith)

module _ (tail : Bool) where
  groups_cons : (a t : List ℕ) → groups_of tail (a ∷ split_on 58 t) ≡ cons_both (group_of a) (groups_of tail (split_on 58 t))
  unfolding groups_of
  groups_cons a t =
      ap (λ ts. groups_of tail (a ∷ ts)) (cut_first 58 t) ∙ ap (λ ts. cons_both (group_of a) (groups_of tail ts)) (sym (cut_first 58 t))

  one_group : (a : List ℕ) → octets_in (groups_of tail (a ∷ [])) ≡ last_in tail a
  unfolding groups_of last_in
  one_group a = refl

  module _ (t : List ℕ) where
    -- the only group, or the first of more
    pub groups_last : split_on 58 t ≡ t ∷ [] → groups_in tail t ≡ last_in tail t
    unfolding groups_in
    groups_last e = ap (λ ts. octets_in (groups_of tail ts)) e ∙ one_group t

    module _ (a u : List ℕ) (e : split_on 58 t ≡ a ∷ split_on 58 u) where
      groups_next : groups_in tail t ≡ octets_in (cons_both (group_of a) (groups_of tail (split_on 58 u)))
      unfolding groups_in
      groups_next = ap (λ ts. octets_in (groups_of tail ts)) e ∙ ap octets_in (groups_cons a u)

      pub group_fault : piece_of Group a ≡ None → groups_in tail t ≡ None
      group_fault f = groups_next ∙ octets_none a _ f

      pub group_on : (xs : List ℕ) → piece_of Group a ≡ Some xs → groups_in tail t ≡ after xs (groups_in tail u)
      unfolding groups_in
      group_on xs f = groups_next ∙ octets_cons a xs (groups_of tail (split_on 58 u)) f

  -- one side
  pub side_some : (t : List ℕ) → 0 < length t → groups_in tail t ≡ side_in tail t
  unfolding groups_in side_in
  side_some [] h = absurd (omega arith)
  side_some (x ∷ t) h = refl

  pub side_none : (t : List ℕ) → length t ≡ 0 → side_in tail t ≡ Some []
  unfolding side_in
  side_none [] h = refl
  side_none (x ∷ t) h = absurd (omega arith)

-- a text that is stored over another of at most its length
sets_over : (o : List ℕ) (n : ℕ) (s t : List ℕ) → length s ≤ length t → sets (sets o n s) n t ≡ sets o n t
sets_over o n [] t h = refl
sets_over o n (a ∷ s) [] h = absurd (omega arith)
sets_over o n (a ∷ s) (b ∷ t) h =
    ap (λ (l : List ℕ). sets l (suc n) t) (set_before (set o n a) n (suc n) b s (omega arith) ∙ ap (λ (l : List ℕ). sets l (suc n) s) (set-set o n a b))
    ∙ sets_over (set o n b) (suc n) s t (omega arith)

wrote_over : {o o₁ o₂ : List ℕ} {n r w : ℕ} {s t : List ℕ} → Wrote o o₁ n r s → Wrote o₁ o₂ n w t → length s ≤ length t → Wrote o o₂ n w t
wrote_over {o} {o₁} {o₂} {n} {r} {w} {s} {t} a b h = record {
  octets = b.octets ∙ ap (λ (l : List ℕ). sets l n t) a.octets ∙ sets_over o n s t h;
  count = b.count;
}

-- the right side
all_filled : (g k : ℕ) (ys : List ℕ) → k ≡ length ys → g + length ys ≤ 14 → filled g (Some ys) ≡ Some (replicate (16 - (g + k)) 0 ++ ys)
all_filled g k ys q h = rw (q, le-leb (g + length ys) 14 h)

pub right_all : (g : ℕ) (S : Option (List ℕ)) (o o₁ : List ℕ) (n r : ℕ) → Values o o₁ n (Some r) S → (o₂ o₃ : List ℕ) (m : ℕ) (v : Option ℕ) → g ≤ 14 → r - n ≤ 14 - g
    → Wrote o₁ o₂ n m (replicate (16 - (g + (r - n))) 0) → Values o₂ o₃ m v S → Values o o₃ n v (filled g S)
right_all g S o o₁ n r p o₂ o₃ m None h k z q = ap (filled g) q
right_all g S o o₁ n r (xs, e, w) o₂ o₃ m (Some u) h k z (ys, f, v) =
    let same : xs ≡ ys = cc in
    let c : r - n ≡ length ys = omega (arith, w.count, ap length same) in
    let d : length xs ≤ length (replicate (16 - (g + (r - n))) 0 ++ ys) = omega (arith, ap length same, length-append (replicate (16 - (g + (r - n))) 0) ys) in
    (replicate (16 - (g + (r - n))) 0 ++ ys, ap (filled g) f ∙ all_filled g (r - n) ys c (omega arith), wrote_over w (wrote_append z v) d)

-- both sides, and the zeros between them
abbrev with_right : List ℕ → Option (List ℕ) → Option (List ℕ)
with_right t o = o >>= λ xs. filled (length xs) (side_in true t) >>= λ ys. Some (xs ++ ys)

pub both_all : (s t o o₁ : List ℕ) (n m : ℕ) → Values o o₁ n (Some m) (side_in false s) → (o₂ : List ℕ) (v : Option ℕ) → Values o₁ o₂ m v (filled (m - n) (side_in true t))
    → Values o o₂ n v (both_sides s t)
both_all s t o o₁ n m (xs, e, w) o₂ v q =
    let c : length xs ≡ m - n = omega (arith, w.count) in
    begun_rest o₂ v (begun_piece xs (filled (m - n) (side_in true t)) (begun_none o n (both_sides s t)) w (ap (with_right t) e ∙ ap (λ k. after xs (filled k (side_in true t))) c)) q

-- eight groups as sixteen octets
groups_append : (gs hs : List ℕ) → group_octets (gs ++ hs) ≡ group_octets gs ++ group_octets hs
groups_append [] hs = refl
groups_append (g ∷ gs) hs = ap (λ t. digits 256 2 g ++ t) (groups_append gs hs)

zero_groups : (k : ℕ) → group_octets (replicate k 0) ≡ replicate (2 * k) 0
zero_groups zero = refl
zero_groups (suc k) = let q : suc (suc (2 * k)) ≡ 2 * suc k = omega arith in ap (λ t. 0 ∷ 0 ∷ t) (zero_groups k) ∙ ap (λ n. replicate n 0) q

pub whole_same : (t : List ℕ) → at_double_colon t ≡ single → sixteen (groups_in true t) ≡ read_aaaa t
unfolding groups_in
whole_same t h = by (groups_of true (split_on 58 t)) ∙ ap (λ d. octets_in (eight_groups t d)) (sym h)
  where
    on : (gs : List ℕ) (b : Bool) → eqb (length gs) 8 ≡ b → provided (eqb (length (group_octets gs)) 16) (group_octets gs) ≡ octets_in (provided b gs)
    on gs true e = rw (eq-eqb (length (group_octets gs)) 16 (omega (arith, groups_length gs, eqb-true (length gs) 8 e)))
    on gs false e = rw (ne_eqb (length (group_octets gs)) 16 (λ q. eqb-false (length gs) 8 e (omega (arith, groups_length gs))))

    by : (o : Option (List ℕ)) → sixteen (octets_in o) ≡ octets_in (exactly 8 o)
    by None = refl
    by (Some gs) = on gs (eqb (length gs) 8) refl

pub both_same : (t s u : List ℕ) → at_double_colon t ≡ double s u → both_sides s u ≡ read_aaaa t
unfolding side_in
both_same t s u h = by (side_of false s) (side_of true u) ∙ ap (λ d. octets_in (eight_groups t d)) (sym h)
  where
    on : (gs hs : List ℕ) (b : Bool) → leb (length gs + length hs) 7 ≡ b
        → (filled (length (group_octets gs)) (Some (group_octets hs)) >>= λ ys. Some (group_octets gs ++ ys)) ≡ octets_in (provided b (gs ++ replicate (8 - (length gs + length hs)) 0 ++ hs))
    on gs hs true e =
        let m = leb-true (length gs + length hs) 7 e in
        let c : 16 - (length (group_octets gs) + length (group_octets hs)) ≡ 2 * (8 - (length gs + length hs)) = omega (arith, groups_length gs, groups_length hs) in
        rw (le-leb (length (group_octets gs) + length (group_octets hs)) 14 (omega (arith, groups_length gs, groups_length hs)), c, ← (zero_groups (8 - (length gs + length hs))))
        (ap Some (ap (λ l. group_octets gs ++ l) (sym (groups_append (replicate (8 - (length gs + length hs)) 0) hs)) ∙ sym (groups_append gs (replicate (8 - (length gs + length hs)) 0 ++ hs)) ∙ ap group_octets (sym (append_assoc gs (replicate (8 - (length gs + length hs)) 0) hs))))
    on gs hs false e = rw (lt-leb (length (group_octets gs) + length (group_octets hs)) 14 (omega (arith, groups_length gs, groups_length hs, leb-false (length gs + length hs) 7 e)))

    by : (o p : Option (List ℕ)) → (octets_in o >>= λ xs. filled (length xs) (octets_in p) >>= λ ys. Some (xs ++ ys)) ≡ octets_in (o >>= λ gs. p >>= λ hs. provided (leb (length gs + length hs) 7) (gs ++ replicate (8 - (length gs + length hs)) 0 ++ hs))
    by None p = refl
    by (Some gs) None = refl
    by (Some gs) (Some hs) = on gs hs (leb (length gs + length hs) 7) refl
