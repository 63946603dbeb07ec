-- The text of a run, written field by field.
use Prim.Native.Nat.{ℕ, zero, suc, ◌+◌, ◌-◌, ◌*◌, ◌≤◌, ◌<◌}
use mathlib.Core.Path.{◌≡◌, refl, sym, ap, ◌∙◌, subst}
use mathlib.Core.Bool.{Bool, true, cond}
use mathlib.Core.List.{List, [], ◌∷◌, ◌++◌, append-nil}
use native.Mathlib.Omega.{arith}
use lib.ListN.{length, take, drop, get_or, set, length-drop}
use lib.Dec.{eqb}
use borrow.Author.Tests.{ne_eqb}
use lib.Seq.{length-take-le}
use Rattle.format.specs.Wire.{took, taken}
use Rattle.format.specs.Field.{Symbol, Kind, start}
use Rattle.format.specs.Catalogue.{TypeName}
use Rattle.format.specs.Demands.{sound_names}
use Rattle.format.specs.Run.{shown, parts, parts_of, joined, text_of_parts, text_of}
use Rattle.format.proofs.Lists.{below_each}
use Rattle.format.proofs.Wire.{fits, alone}
use Rattle.format.proofs.Fields.{field_laws}
use Rattle.format.proofs.Bound.{cap_most}
use Rattle.stanza_form.specs.Forms.{kind_of, held_by, symbols_in, or_none}
use Rattle.stanza_form.specs.declared.FieldDesc.{FieldDesc}
use Rattle.stanza_form.specs.Code.{field_at, fields_of}
use Rattle.catalogue.specs.declared.Catalogue.{Catalogue}
use Rattle.catalogue.specs.Known.{names_in}
use Rattle.catalogue.proofs.Laws.{listed_sound}
use Rattle.buffer.specs.Writing.{Wrote}
use Rattle.buffer.proofs.Laws.{Left, left_piece, wrote_before}
use Rattle.run_wire.specs.Run.{kinds_of}
use Rattle.stanza_form.specs.Fields.{kind_for, Usable}
use Rattle.run_wire.proofs.Laws.{next_kind, no_kind}
use Rattle.run_print.specs.Printing.{lead}
use Rattle.format.proofs.Run.{First, took_first, first, more, empty}

pub lead_joined : (n : ℕ) (f t : List ℕ) → lead n (joined f t) ≡ lead n f ++ lead (n + length (lead n f)) t
lead_joined zero [] t = refl
lead_joined zero (x ∷ f) t = let q : 0 + length (x ∷ f) ≡ suc (length f) = omega arith in rw q (by t)
  where
    by : (u : List ℕ) → joined (x ∷ f) u ≡ (x ∷ f) ++ lead (suc (length f)) u
    by [] = sym (append-nil (x ∷ f))
    by (y ∷ u) = refl
lead_joined (suc n) [] t = let q : suc n + 0 ≡ suc n = omega arith in rw q
lead_joined (suc n) (x ∷ f) t = let q : suc n + length (32 ∷ x ∷ f) ≡ suc (n + length (32 ∷ x ∷ f)) = omega arith in rw q (by t)
  where
    by : (u : List ℕ) → lead (suc n) (joined (x ∷ f) u) ≡ (32 ∷ x ∷ f) ++ lead (suc (n + length (32 ∷ x ∷ f))) u
    by [] = ap (λ l. 32 ∷ x ∷ l) (sym (append-nil f))
    by (y ∷ u) = refl

-- the first field's text, and the text of the others
pub text_next : (ns : List TypeName) (k : Kind) (ks : List Kind) (xs : List ℕ) (ps : List (List ℕ)) → parts_of (k ∷ ks) xs ≡ parts ps
    → (w : ℕ) × (taken (start k) xs ≡ took w) × ((qs : List (List ℕ)) × (parts_of ks (drop w xs) ≡ parts qs)) × (text_of ns (k ∷ ks) xs ≡ joined (shown ns k (take w xs)) (text_of ns ks (drop w xs)))
unfolding text_of text_of_parts
text_next ns k ks xs ps e = by (first k ks xs ps e)
  where
    by : First k ks xs ps → (w : ℕ) × (taken (start k) xs ≡ took w) × ((qs : List (List ℕ)) × (parts_of ks (drop w xs) ≡ parts qs)) × (text_of ns (k ∷ ks) xs ≡ joined (shown ns k (take w xs)) (text_of ns ks (drop w xs)))
    by (took_first n qs t f w) = (n, t, (qs, f), text)
      where
        text : text_of ns (k ∷ ks) xs ≡ joined (shown ns k (take n xs)) (text_of ns ks (drop n xs))
        text = rw (more k ks xs n t, f)

pub text_none : (ns : List TypeName) (xs : List ℕ) (ps : List (List ℕ)) → parts_of [] xs ≡ parts ps → text_of ns [] xs ≡ []
unfolding text_of text_of_parts
text_none ns xs ps e = rw e

-- the first text stands where the run's does; a later one leaves room for a space
pub lead_first : {xs ys t : List ℕ} {at n w : ℕ} → at ≡ 0 → n ≡ cond (eqb at 0) 0 (at + 1) → Wrote xs ys n (n + w) t → Wrote xs ys at w (lead at t)
lead_first {xs} {ys} {t} {at} {n} {w} z e v = by at n z e v
  where
    by : (k m : ℕ) → k ≡ 0 → m ≡ cond (eqb k 0) 0 (k + 1) → Wrote xs ys m (m + w) t → Wrote xs ys k w (lead k t)
    by zero m z e v = record { octets = rw e at v.octets; count = omega (arith, v.count) }
    by (suc k) m z e v = absurd (omega arith)

pub place_later : (at n : ℕ) → (at ≡ 0 → ⊥) → n ≡ cond (eqb at 0) 0 (at + 1) → n ≡ at + 1
place_later at n h e = rw (ne_eqb at 0 h) at e

-- a field's text after others: nothing for an empty one, and a space before any other
pub lead_none : {xs ys t : List ℕ} {at w : ℕ} → (at ≡ 0 → ⊥) → w ≡ 0 → Wrote xs ys (at + 1) (at + 1 + w) t → Wrote xs ys at at (lead at t)
lead_none {xs} {ys} {t} {at} {w} h z v = by at t h v
  where
    by : (n : ℕ) (u : List ℕ) → (n ≡ 0 → ⊥) → Wrote xs ys (n + 1) (n + 1 + w) u → Wrote xs ys n n (lead n u)
    by zero u h v = absurd (h refl)
    by (suc n) [] h v = record { octets = v.octets; count = omega arith }
    by (suc n) (x ∷ u) h v = absurd (omega (arith, v.count))

pub lead_some : {xs ys t : List ℕ} {at w : ℕ} (zs : List ℕ) → (at ≡ 0 → ⊥) → (w ≡ 0 → ⊥) → Wrote xs ys (at + 1) (at + 1 + w) t → zs ≡ set ys at 32 → Wrote xs zs at (at + 1 + w) (lead at t)
lead_some {xs} {ys} {t} {at} {w} zs h z v p = by at t h v p
  where
    by : (n : ℕ) (u : List ℕ) → (n ≡ 0 → ⊥) → Wrote xs ys (n + 1) (n + 1 + w) u → zs ≡ set ys n 32 → Wrote xs zs n (n + 1 + w) (lead n u)
    by zero u h v p = absurd (h refl)
    by (suc n) [] h v p = absurd (z (omega (arith, v.count)))
    by (suc n) (x ∷ u) h v p = wrote_before zs 32 v p

lead_length : (n : ℕ) (t : List ℕ) → length (lead n t) ≤ length t + 1
lead_length zero t = omega arith
lead_length (suc n) [] = omega arith
lead_length (suc n) (x ∷ t) = omega arith

-- a field's text is not too long
field_short : (ns : List TypeName) → sound_names ns ≡ true → (s : List ℕ) (d : FieldDesc) → Usable s d → (p : List ℕ) → ((j : ℕ) → get_or p j 0 < 256)
    → taken (start (kind_for s d)) p ≡ took (length p) → length (shown ns (kind_for s d) p) ≤ 4 * length p + 687679
field_short ns g s d u p b t = omega (arith, (field_laws ns g (kind_for s d) u.sound).bound p (below_each 256 p b) t, cap_most (kind_for s d))

-- the same under a catalogue
pub listed_short : (c : Catalogue) (s : List ℕ) (d : FieldDesc) → Usable s d → (p : List ℕ) → ((j : ℕ) → get_or p j 0 < 256)
    → taken (start (kind_for s d)) p ≡ took (length p) → length (shown (names_in c) (kind_for s d) p) ≤ 4 * length p + 687679
listed_short c s d u p b t = field_short (names_in c) (listed_sound c.names.now c.types.now c.listed) s d u p b t

-- A turn of the loop over a run: k fields are written, the octets ys are left, and the next field, d, takes w of them.
pub record Turn (ns : List TypeName) (s cs ys : List ℕ) (k w : ℕ) (d : FieldDesc) : Type 0 where
  pub within : w ≤ length ys
  pub takes : taken (start (kind_for s d)) (take w ys) ≡ took (length (take w ys))
  pub others : (qs : List (List ℕ)) × (parts_of (kinds_of s (fields_of (drop (k + 1) cs))) (drop w ys) ≡ parts qs)
  pub text : text_of ns (kinds_of s (fields_of (drop k cs))) ys ≡ joined (shown ns (kind_for s d) (take w ys)) (text_of ns (kinds_of s (fields_of (drop (k + 1) cs))) (drop w ys))

module _ (ns : List TypeName) (s cs ys : List ℕ) (k : ℕ) (h : k < length cs) (a : (ps : List (List ℕ)) × (parts_of (kinds_of s (fields_of (drop k cs))) ys ≡ parts ps)) where
  pub turn : (d : FieldDesc) → d ≡ field_at (get_or cs k 0) → (last : Bool) → (last ≡ true → k + 1 ≡ length cs) → (r : ℕ)
      → ((m : List Symbol) (w : ℕ) → taken (start (kind_of m d.form)) ys ≡ took w → (last ≡ true → w ≡ length ys) → r ≡ w) → Turn ns s cs ys k r d
  turn d f last y r g = by (text_next ns (kind_for s d) others_kinds ys a.0 (ap (λ ks. parts_of ks ys) (sym next) ∙ a.1))
    where
      others_kinds : List Kind
      others_kinds = kinds_of s (fields_of (drop (k + 1) cs))

      next : kinds_of s (fields_of (drop k cs)) ≡ kind_for s d ∷ others_kinds
      next = next_kind s cs k h d f

      by : ((w : ℕ) × (taken (start (kind_for s d)) ys ≡ took w)
          × ((qs : List (List ℕ)) × (parts_of (kinds_of s (fields_of (drop (k + 1) cs))) (drop w ys) ≡ parts qs))
          × (text_of ns (kind_for s d ∷ kinds_of s (fields_of (drop (k + 1) cs))) ys
          ≡ joined (shown ns (kind_for s d) (take w ys)) (text_of ns (kinds_of s (fields_of (drop (k + 1) cs))) (drop w ys))))
          → Turn ns s cs ys k r d
      by (w, t, q, e) =
          let m : w ≤ length ys = fits (start (kind_for s d)) ys w t in
          let ends : last ≡ true → w ≡ length ys = λ x.
          let (o, _) = empty (drop w ys) q.0 (subst (λ ks. parts_of ks (drop w ys) ≡ parts q.0) (no_kind s cs (k + 1) (omega (arith, y x))) q.1) in
          omega (arith, ap length o, length-drop w ys) in
          let z : r ≡ w = g (or_none (symbols_in (held_by d.form) s d.qualifiers_at d.qualifiers_end)) w t ends in
          let n : w ≡ length (take w ys) = sym (length-take-le w ys m) in
          rw z (record {
            within = m;
            takes = alone (start (kind_for s d)) ys w t ∙ ap took n;
            others = q;
            text = ap (λ ks. text_of ns ks ys) next ∙ e;
          })

-- the text that is left, after a field's is written
pub text_went : {o₀ all o : List ℕ} {n : ℕ} (rest f t o' : List ℕ) (r : ℕ) → Left o₀ 0 all o n (lead n rest) → rest ≡ joined f t → Wrote o o' n r (lead n f) → Left o₀ 0 all o' r (lead r t)
text_went {n = n} rest f t o' r v e w =
    left_piece o' r (lead n f) (lead r t) v (ap (lead n) e ∙ lead_joined n f t ∙ ap (λ k. lead n f ++ lead k t) (sym w.count)) w

pub went_bound : {o o' : List ℕ} {n r : ℕ} (f : List ℕ) (m : ℕ) → length f ≤ m → Wrote o o' n r (lead n f) → r ≤ n + m + 1
went_bound {n = n} {r} f m h w = omega (arith, w.count, lead_length n f)

-- no field is left, and so no text is
pub run_done : (ns : List TypeName) (s cs : List ℕ) (k : ℕ) (xs : List ℕ) (at : ℕ) → length cs ≤ k
    → (ps : List (List ℕ)) × (parts_of (kinds_of s (fields_of (drop k cs))) xs ≡ parts ps) → lead at (text_of ns (kinds_of s (fields_of (drop k cs))) xs) ≡ []
run_done ns s cs k xs at h (ps, e) =
    let q = no_kind s cs k h in
    ap (lead at) (ap (λ ks. text_of ns ks xs) q ∙ text_none ns xs ps (ap (λ ks. parts_of ks xs) (sym q) ∙ e)) ∙ by at
  where
    by : (n : ℕ) → lead n [] ≡ []
    by zero = refl
    by (suc n) = refl
