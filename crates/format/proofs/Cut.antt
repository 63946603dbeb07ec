-- Demand 3: what a cut of a field list says of any octets.
use Prim.Native.Nat.{ℕ, zero, suc, ◌+◌, ◌-◌, ◌≤◌, min}
use mathlib.Core.Path.{◌≡◌, refl, sym, ap, ◌∙◌}
use mathlib.Core.Logic.{◌↔◌}
use mathlib.Core.Bool.{Bool, true, false, not, ◌&&◌}
use mathlib.Core.List.{List, [], ◌∷◌, ◌++◌, append-nil}
use native.Mathlib.Omega.{arith}
use lib.ListN.{length, take, drop, length-take, length-drop, take-append-drop}
use lib.Seq.{take-append-le, drop-append-le, drop-nil, take-add, drop-drop, take-length, drop-length, take_at, drop_at}
use lib.Dec.{leb}
use borrow.Author.Tests.{leb-true, leb-false}
use Rattle.format.specs.Wire.{took, taken}
use Rattle.format.specs.Field.{Kind, start, tail}
use Rattle.format.specs.Catalogue.{TypeName}
use Rattle.format.specs.Run.{shown, Parts, refused, parts, with_first, parts_of, is_parts, max_rdata, accepts, joined, text_of}
use Rattle.format.specs.Demands.{tails_last, Divides}
use Rattle.format.proofs.Wire.{fits, alone, anyhow}
use Rattle.format.proofs.Run.{not_tail, First, took_first, first, more, empty, part_count, accepted_parts, parts_accepted, text_append}

abbrev pub NoTails : List Kind → Type 0
NoTails [] = Unit {0}
NoTails (k ∷ ks) = (tail k ≡ false) × NoTails ks

abbrev with_all : List (List ℕ) → Parts → Parts
with_all [] r = r
with_all (p ∷ ps) r = with_first p (with_all ps r)

all_parts : (ps qs : List (List ℕ)) → with_all ps (parts qs) ≡ parts (ps ++ qs)
all_parts [] qs = refl
all_parts (p ∷ ps) qs = rw (all_parts ps qs)

all_is : (ps : List (List ℕ)) (r : Parts) → is_parts (with_all ps r) ≡ is_parts r
all_is [] r = refl
all_is (p ∷ ps) r = by (with_all ps r) (all_is ps r)
  where
    by : (q : Parts) → is_parts q ≡ is_parts r → is_parts (with_first p q) ≡ is_parts r
    by (refused n i) e = e
    by (parts qs) e = e

-- what follows a list with no tail is left to the next list
extend : (ks ls : List Kind) (xs ys : List ℕ) (ps : List (List ℕ)) → NoTails ks → parts_of ks xs ≡ parts ps → parts_of (ks ++ ls) (xs ++ ys) ≡ with_all ps (parts_of ls ys)
extend [] ls xs ys ps s e = rw ((empty xs ps e).0, (empty xs ps e).1)
extend (k ∷ ks) ls xs ys ps s e = by (first k ks xs ps e) (λ zs qs. extend ks ls zs ys qs s.1)
  where
    by : First k ks xs ps
        → ((zs : List ℕ) (qs : List (List ℕ)) → parts_of ks zs ≡ parts qs → parts_of (ks ++ ls) (zs ++ ys) ≡ with_all qs (parts_of ls ys))
        → parts_of (k ∷ (ks ++ ls)) (xs ++ ys) ≡ with_all ps (parts_of ls ys)
    by (took_first n qs t f w) ih =
        let le : n ≤ length xs = fits (start k) xs n t in
        let u : taken (start k) (xs ++ ys) ≡ took n = anyhow (start k) xs ys n (not_tail k s.0) t in
        rw (more k (ks ++ ls) (xs ++ ys) n u, take-append-le n xs ys le, drop-append-le n xs ys le, ih (drop n xs) qs f, w)

-- two lists that take all divide it
data Divided (ks ls : List Kind) (xs : List ℕ) : Type 0 where
  divides_at : (d : ℕ) (ps qs : List (List ℕ)) → d ≤ length xs → parts_of ks (take d xs) ≡ parts ps → parts_of ls (drop d xs) ≡ parts qs → Divided ks ls xs

divide : (ks ls : List Kind) (xs : List ℕ) (rs : List (List ℕ)) → NoTails ks → parts_of (ks ++ ls) xs ≡ parts rs → Divided ks ls xs
divide [] ls xs rs s e = divides_at 0 [] rs (omega arith) (unfold parts_of in refl) e
divide (k ∷ ks) ls xs rs s e = by (first k (ks ++ ls) xs rs e) (λ zs qs. divide ks ls zs qs s.1)
  where
    at : (n : ℕ) → taken (start k) xs ≡ took n → Divided ks ls (drop n xs) → Divided (k ∷ ks) ls xs
    at n t (divides_at d ps us h f g) =
        let le : n ≤ length xs = fits (start k) xs n t in
        let lt : length (take n xs) ≡ n = simp length-take (omega arith) in
        let u : taken (start k) (take n xs ++ take d (drop n xs)) ≡ took n
        = anyhow (start k) (take n xs) (take d (drop n xs)) n (not_tail k s.0) (alone (start k) xs n t) in
        divides_at (n + d) (take n xs ∷ ps) us (omega (arith, length-drop n xs)) (rw (take-add n d xs, more k ks (take n xs ++ take d (drop n xs)) n u, take_at (take n xs) (take d (drop n xs)) n lt, drop_at (take n xs) (take d (drop n xs)) n lt, f)) (rw (← (drop-drop d n xs)) g)

    by : First k (ks ++ ls) xs rs
        → ((zs : List ℕ) (qs : List (List ℕ)) → parts_of (ks ++ ls) zs ≡ parts qs → Divided ks ls zs)
        → Divided (k ∷ ks) ls xs
    by (took_first n qs t f w) ih = at n t (ih (drop n xs) qs f)

-- Two lists that a cut of a stanza can give: the first has no tail, or the second is empty.
pub data Cuttable : List Kind → List Kind → Type 0 where
  no_tails : {ks ls : List Kind} → NoTails ks → Cuttable ks ls
  all : {ks : List Kind} → Cuttable ks []

pub cut_cases : (ks : List Kind) (n : ℕ) → tails_last ks ≡ true → Cuttable (take n ks) (drop n ks)
cut_cases [] n h = rw (drop-nil n) all
cut_cases (k ∷ ks) zero h = no_tails tt
cut_cases (k ∷ []) (suc n) h = rw (drop-nil n) all
cut_cases (k ∷ l ∷ ks) (suc n) h = by (tail k) refl h (λ g. cut_cases (l ∷ ks) n g)
  where
    on : tail k ≡ false → (as₁ bs₁ : List Kind) → Cuttable as₁ bs₁ → Cuttable (k ∷ as₁) bs₁
    on e as₁ bs₁ (no_tails s) = no_tails {ks = k ∷ as₁} (e, s)
    on e as₁ bs₁ all = all

    by : (b : Bool) → tail k ≡ b → not b && tails_last (l ∷ ks) ≡ true → (tails_last (l ∷ ks) ≡ true → Cuttable (take n (l ∷ ks)) (drop n (l ∷ ks)))
        → Cuttable (k ∷ take n (l ∷ ks)) (drop n (l ∷ ks))
    by true e f ih = let z : ◌≡◌ {A = ℕ} 0 1 = cc in absurd (omega arith)
    by false e f ih = on e (take n (l ∷ ks)) (drop n (l ∷ ks)) (ih f)

merged : (ks ls : List Kind) → Cuttable ks ls → (xs ys : List ℕ) (ps qs : List (List ℕ))
    → parts_of ks xs ≡ parts ps → parts_of ls ys ≡ parts qs → parts_of (ks ++ ls) (xs ++ ys) ≡ parts (ps ++ qs)
merged ks ls (no_tails s) xs ys ps qs e f = rw (extend ks ls xs ys ps s e, f, all_parts ps qs)
merged ks ls all xs ys ps qs e f = rw ((empty ys qs f).0, (empty ys qs f).1, append-nil ks, append-nil xs, append-nil ps, e)

divided : (ks ls : List Kind) → Cuttable ks ls → (xs : List ℕ) (rs : List (List ℕ)) → parts_of (ks ++ ls) xs ≡ parts rs → Divided ks ls xs
divided ks ls (no_tails s) xs rs e = divide ks ls xs rs s e
divided ks ls all xs rs e =
    divides_at (length xs) rs [] (omega arith) (rw (take-length xs) (rw (append-nil ks) at e)) (rw (drop-length xs) (unfold parts_of in refl))

pub none_left : (xs : List ℕ) → is_parts (parts_of [] xs) ≡ true → xs ≡ []
unfolding parts_of
none_left [] h = refl
none_left (x ∷ xs) h = cc

-- a list with no tail accepts no longer octets
no_longer : (ks : List Kind) (xs ys : List ℕ) (ps rs : List (List ℕ)) → NoTails ks → parts_of ks xs ≡ parts ps → parts_of ks (xs ++ ys) ≡ parts rs → ys ≡ []
no_longer ks xs ys ps rs s e f =
    let g : parts_of ks (xs ++ ys) ≡ with_all ps (parts_of [] ys) = rw (append-nil ks) at (extend ks [] xs ys ps s e) in
    none_left ys (sym (all_is ps (parts_of [] ys)) ∙ ap is_parts (sym g ∙ f))

-- of two divisions, the longer is no longer
same_cut : (ks ls : List Kind) → Cuttable ks ls → (xs : List ℕ) (d e : ℕ) (ps qs us vs : List (List ℕ)) → d ≤ e → e ≤ length xs
    → parts_of ks (take d xs) ≡ parts ps → parts_of ls (drop d xs) ≡ parts qs → parts_of ks (take e xs) ≡ parts us → d ≡ e
same_cut ks ls (no_tails s) xs d e ps qs us vs le l f g h =
    let i : d + (e - d) ≡ e = omega arith in
    let j : take d xs ++ take (e - d) (drop d xs) ≡ take e xs = sym (take-add d (e - d) xs) ∙ ap (λ n. take n xs) i in
    let z : take (e - d) (drop d xs) ≡ [] = no_longer ks (take d xs) (take (e - d) (drop d xs)) ps us s f (rw j h) in
    let c : min (e - d) (length xs - d) ≡ 0 = sym (length-take (e - d) (drop d xs) ∙ ap (min (e - d)) (length-drop d xs)) ∙ ap length z in
    omega arith
same_cut ks ls all xs d e ps qs us vs le l f g h =
    let c : length xs - d ≡ 0 = sym (length-drop d xs) ∙ ap length (empty (drop d xs) qs g).0 in
    omega arith

module _ (ks ls : List Kind) (c : Cuttable ks ls) (xs : List ℕ) where
  -- the parts of both sides of a division, and of the whole
  both : (d : ℕ) → Divides ks ls xs d
      → (ps qs : List (List ℕ)) × (parts_of ks (take d xs) ≡ parts ps) × (parts_of ls (drop d xs) ≡ parts qs) × (parts_of (ks ++ ls) xs ≡ parts (ps ++ qs))
  both d w =
      let (ps, e) = accepted_parts ks (take d xs) w.front in
      let (qs, f) = accepted_parts ls (drop d xs) w.back in
      (ps, qs, e, f, rw (take-append-drop d xs) at (merged ks ls c (take d xs) (drop d xs) ps qs e f))

  to_division : length xs ≤ max_rdata → Divided ks ls xs → (d : ℕ) × Divides ks ls xs d
  to_division m (divides_at d ps qs h e f) = (
    d,
    record {
      within = h;
      front = parts_accepted ks (take d xs) ps (omega (arith, length-take d xs)) e;
      back = parts_accepted ls (drop d xs) qs (omega (arith, length-drop d xs)) f;
    },
  )

  pub cut_accepted : length xs ≤ max_rdata → (accepts (ks ++ ls) xs ≡ true) ↔ ((d : ℕ) × Divides ks ls xs d)
  cut_accepted m = (
    λ h. let (rs, e) = accepted_parts (ks ++ ls) xs h in to_division m (divided ks ls c xs rs e),
    λ w. let (ps, qs, e, f, g) = both w.0 w.1 in parts_accepted (ks ++ ls) xs (ps ++ qs) m g,
  )

  ordered : (d e : ℕ) → d ≤ e → Divides ks ls xs d → Divides ks ls xs e → d ≡ e
  ordered d e h p q =
      let (ps, qs, f, g, i) = both d p in
      let (us, vs, j, k, l) = both e q in
      same_cut ks ls c xs d e ps qs us vs h q.within f g j

  pub cut_once : (d e : ℕ) → Divides ks ls xs d → Divides ks ls xs e → d ≡ e
  cut_once d e p q = by (leb d e) refl
    where
      by : (b : Bool) → leb d e ≡ b → d ≡ e
      by true h = ordered d e (leb-true d e h) p q
      by false h = let lt = leb-false d e h in sym (ordered e d (omega arith) q p)

  pub cut_text : (c : List TypeName) (d : ℕ) → Divides ks ls xs d → text_of c (ks ++ ls) xs ≡ joined (text_of c ks (take d xs)) (text_of c ls (drop d xs))
  unfolding text_of
  cut_text n d w = let (ps, qs, e, f, g) = both d w in rw (g, e, f, text_append (shown n) ks ls ps qs (part_count ks (take d xs) ps e))
