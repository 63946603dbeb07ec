-- A name is absolute if an origin of another length gives it the same length.
use Prim.Native.Nat.{ℕ, zero, suc, ◌+◌, ◌-◌, ◌≤◌, ◌<◌}
use mathlib.Core.Path.{◌≡◌, refl, sym, ap, ◌∙◌}
use mathlib.Core.Bool.{Bool, true, false, cond}
use mathlib.Core.List.{List, [], ◌∷◌, ◌++◌, map}
use Rattle.std.specs.Prelude.{Option, None, Some}
use native.Mathlib.Omega.{arith}
use lib.Dec.{leb, eqb}
use lib.ListN.{length, take, drop, length-append}
use lib.Seq.{slice, length-slice, take-length}
use borrow.Author.Tests.{eqb-true, eqb-false}
use Rattle.format.specs.Lists.{◌>>=◌, provided, null, split}
use Rattle.format.specs.Octets.{in_range, same_octets}
use Rattle.format.specs.Wire.{taken}
use Rattle.format.specs.Token.{bare, tokens, Item, octet_of, unescaped_from, unescaped}
use Rattle.format.specs.Text.{with_count}
use Rattle.format.specs.Name.{is_dot, label_before, wire_name, name_of, read_name, is_wire_name}
use Rattle.format.specs.Job.{origin_token, origin_of}
use Rattle.format.proofs.Lists.{same_octets_lem, octets_same}
use Rattle.buffer.specs.Writing.{Values}
use Rattle.octets.proofs.Slices.{lent}
use Rattle.job_form.specs.Lines.{lines_at, NextLine}

pub root_wire : is_wire_name (0 ∷ []) ≡ true
unfolding taken
root_wire = refl

pub other_wire : is_wire_name (1 ∷ 97 ∷ 0 ∷ []) ≡ true
unfolding taken
other_wire = refl

-- the last piece is empty
abbrev ends_dotted : List (List ℕ) → Bool
ends_dotted [] = true
ends_dotted (l ∷ []) = null l
ends_dotted (l ∷ m ∷ ls) = ends_dotted (m ∷ ls)

wire_absolute : (ps : List (List ℕ)) → ends_dotted ps ≡ true → (o : List ℕ) → wire_name (Some o) ps ≡ wire_name None ps
unfolding wire_name
wire_absolute [] h o = refl
wire_absolute (l ∷ []) h o = rw h
wire_absolute (l ∷ m ∷ ls) h o = ap (λ x. x >>= label_before l) (wire_absolute (m ∷ ls) h o)

wire_relative : (ps : List (List ℕ)) → ends_dotted ps ≡ false → wire_name None ps ≡ None
unfolding wire_name
wire_relative [] h = refl
wire_relative (l ∷ []) h = rw h
wire_relative (l ∷ m ∷ ls) h = ap (λ x. x >>= label_before l) (wire_relative (m ∷ ls) h)

-- a label before the rest adds as many octets to any rest
label_adds : (l : List ℕ) (x : Option (List ℕ)) (w : List ℕ) → (x >>= label_before l) ≡ Some w → (v : List ℕ) × (x ≡ Some v) × (length w ≡ length (with_count l) + length v)
label_adds l None w e = let z : ◌≡◌ {A = ℕ} 0 1 = cc in absurd (omega arith)
label_adds l (Some v) w e = (v, refl, by (in_range 1 63 (length l)) e)
  where
    by : (b : Bool) → provided b (with_count l ++ v) ≡ Some w → length w ≡ length (with_count l) + length v
    by true q = let s : with_count l ++ v ≡ w = cc in omega (arith, ap length s, length-append (with_count l) v)
    by false q = cc

-- a name that ends with the origin grows by what another origin is longer
wire_longer : (ps : List (List ℕ)) → ends_dotted ps ≡ false → (o q w v : List ℕ) → wire_name (Some o) ps ≡ Some w → wire_name (Some q) ps ≡ Some v → length w + length q ≡ length v + length o
unfolding wire_name
wire_longer [] h o q w v e f = cc
wire_longer (l ∷ []) h o q w v e f =
    let (w', e', a) = label_adds l (Some o) w (rw h at e) in
    let (v', f', b) = label_adds l (Some q) v (rw h at f) in
    let s : o ≡ w' = cc in
    let t : q ≡ v' = cc in
    omega (arith, ap length s, ap length t)
wire_longer (l ∷ m ∷ ls) h o q w v e f =
    let (w', e', a) = label_adds l (wire_name (Some o) (m ∷ ls)) w e in
    let (v', f', b) = label_adds l (wire_name (Some q) (m ∷ ls)) v f in
    omega (arith, wire_longer (m ∷ ls) h o q w' v' e' f')

-- Under every origin a text spells the same absolute name, or none; or a name that grows by what another origin is longer.
data Spells (t : List ℕ) : Type 0 where
  absolute : ((o : List ℕ) → read_name o t ≡ name_of None t) → Spells t
  relative : name_of None t ≡ None → ((o q w v : List ℕ) → read_name o t ≡ Some w → read_name q t ≡ Some v → length w + length q ≡ length v + length o) → Spells t

at_relative : name_of None (64 ∷ []) ≡ None
unfolding wire_name unescaped_from
at_relative = refl

at_longer : (o q w v : List ℕ) → Some o ≡ Some w → Some q ≡ Some v → length w + length q ≡ length v + length o
at_longer o q w v e f = let s : o ≡ w = cc in let t : q ≡ v = cc in omega (arith, ap length s, ap length t)

abbrev pieces_of : List Item → List (List ℕ)
pieces_of is = map (map octet_of) (split is_dot is)

abbrev short : Option (List ℕ) → Option (List ℕ)
short x = x >>= λ w. provided (leb (length w) 255) w

short_some : (x : Option (List ℕ)) (w : List ℕ) → short x ≡ Some w → x ≡ Some w
short_some None w e = cc
short_some (Some v) w e = by (leb (length v) 255) e
  where
    by : (b : Bool) → provided b v ≡ Some w → Some v ≡ Some w
    by true q = q
    by false q = cc

spells : (t : List ℕ) → Spells t
spells t = by (same_octets t (64 ∷ [])) refl (same_octets t (46 ∷ [])) refl (unescaped t) refl
  where
    by : (a : Bool) → same_octets t (64 ∷ []) ≡ a → (b : Bool) → same_octets t (46 ∷ []) ≡ b → (x : Option (List Item)) → unescaped t ≡ x → Spells t
    by true p b q x r = relative (ap (name_of None) (octets_same t (64 ∷ []) p) ∙ at_relative) (λ o z w v e f. at_longer o z w v (rw p at e) (rw p at f))
    by false p true q x r = absolute (λ o. rw (p, q))
    by false p false q None r = absolute (λ o. rw (p, q, r))
    by false p false q (Some is) r = ends (ends_dotted (pieces_of is)) refl
      where
        ends : (d : Bool) → ends_dotted (pieces_of is) ≡ d → Spells t
        ends true h = absolute (λ o. rw (p, q, r, wire_absolute (pieces_of is) h o))
        ends false h = relative (rw (q, r, wire_relative (pieces_of is) h)) (λ o z w v e f. wire_longer (pieces_of is) h o z w v (short_some _ w (rw (p, q, r) at e)) (short_some _ v (rw (p, q, r) at f)))

-- so two origins of different lengths tell whether a name is absolute
no_end : (t : List ℕ) → Spells t → (o : List ℕ) → read_name o t ≡ None → name_of None t ≡ None
no_end t (absolute f) o e = sym (f o) ∙ e
no_end t (relative n f) o e = n

other_end : (t : List ℕ) → Spells t → (o q w v : List ℕ) → read_name o t ≡ Some w → read_name q t ≡ Some v → (length w ≡ length v → ⊥) → name_of None t ≡ None
other_end t (absolute f) o q w v a b h = let s : Some w ≡ Some v = sym a ∙ f o ∙ sym (f q) ∙ b in let z : w ≡ v = cc in absurd (h (ap length z))
other_end t (relative n f) o q w v a b h = n

one_end : (t : List ℕ) → Spells t → (o q w v : List ℕ) → read_name o t ≡ Some w → read_name q t ≡ Some v → length w ≡ length v → (length o ≡ length q → ⊥) → name_of None t ≡ Some v
one_end t (absolute f) o q w v a b h d = sym (f q) ∙ b
one_end t (relative n f) o q w v a b h d = absurd (d (omega (arith, f o q w v a b)))

-- what is read under the two origins `a` and the root
abbrev under_a : List ℕ → Option (List ℕ)
under_a t = read_name (1 ∷ 97 ∷ 0 ∷ []) t

abbrev under_root : List ℕ → Option (List ℕ)
under_root t = read_name (0 ∷ []) t

pub none_under_a : (t : List ℕ) → under_a t ≡ None → name_of None t ≡ None
none_under_a t e = no_end t (spells t) (1 ∷ 97 ∷ 0 ∷ []) e

pub none_under_root : (t : List ℕ) → under_root t ≡ None → name_of None t ≡ None
none_under_root t e = no_end t (spells t) (0 ∷ []) e

-- of the same length, it is the absolute name; else there is none
pub absolute_value : (t o₁ o₂ p₁ p₂ : List ℕ) (m n : ℕ) → Values o₁ o₂ 0 (Some m) (under_a t) → Values p₁ p₂ 0 (Some n) (under_root t) → m ≡ n → Values p₁ p₂ 0 (Some n) (name_of None t)
absolute_value t o₁ o₂ p₁ p₂ m n (w, e, f) (v, g, h) z =
    (v, one_end t (spells t) (1 ∷ 97 ∷ 0 ∷ []) (0 ∷ []) w v e g (omega (arith, f.count, h.count, z)) (λ d. omega arith), h)

pub relative_value : (t o₁ o₂ p₁ p₂ : List ℕ) (m n : ℕ) → Values o₁ o₂ 0 (Some m) (under_a t) → Values p₁ p₂ 0 (Some n) (under_root t) → (m ≡ n → ⊥) → name_of None t ≡ None
relative_value t o₁ o₂ p₁ p₂ m n (w, e, f) (v, g, h) d =
    other_end t (spells t) (1 ∷ 97 ∷ 0 ∷ []) (0 ∷ []) w v e g (λ s. d (omega (arith, f.count, h.count)))

-- the line is one bare token
part_differs : (t : List ℕ) (a e : ℕ) → e ≤ length t → e - a < length t → same_octets (slice a e t) t ≡ false
part_differs t a e l h = by (same_octets (slice a e t) t) refl
  where
    by : (b : Bool) → same_octets (slice a e t) t ≡ b → b ≡ false
    by true q = absurd (omega (arith, length-slice a e t l, ap length (octets_same (slice a e t) t q)))
    by false q = refl

whole_part : (t : List ℕ) (a e : ℕ) → a < e → e ≤ length t → length t ≤ e - a → slice a e t ≡ t
whole_part t a e g l h = let p : a ≡ 0 = omega arith in let q : e ≡ length t = omega arith in rw (p, q, take-length t)

module _ (t : List ℕ) (a e : ℕ) (k : bare (slice a e t) ∷ tokens (drop e t) ≡ tokens t) (l : e ≤ length t) where
  bare_name : origin_token t (tokens t) ≡ cond (same_octets (slice a e t) t) (name_of None (slice a e t)) None
  bare_name = rw (← k) refl

  pub part_token : e - a < length t → origin_token t (tokens t) ≡ None
  part_token h = rw (bare_name, part_differs t a e l h)

  pub whole_token : a < e → length t ≤ e - a → name_of None t ≡ origin_token t (tokens t)
  whole_token g h = rw (bare_name, whole_part t a e g l h, same_octets_lem t)

-- the origin's section has exactly one line
pub not_one : (ls : List (List ℕ)) (n : ℕ) → n ≤ length ls → (n ≡ 1 → ⊥) → origin_of (take n ls) ≡ None
not_one ls zero h d = refl
not_one ls (suc zero) h d = absurd (d refl)
not_one [] (suc (suc n)) h d = absurd (omega arith)
not_one (l ∷ []) (suc (suc n)) h d = absurd (omega arith)
not_one (l ∷ m ∷ ls) (suc (suc n)) h d = refl

pub one_line : (j : List ℕ) (at e n : ℕ) → NextLine j at e → n ≡ 1 → (o₁ o₂ : List ℕ) (r : Option ℕ)
    → Values o₁ o₂ 0 r (origin_token (take (e - at) (drop at j)) (tokens (take (e - at) (drop at j)))) → Values o₁ o₂ 0 r (origin_of (take n (lines_at j at)))
one_line j at e n l q o₁ o₂ r v = rw (q, l.lines) (rw (lent j at e l.after) at v)
