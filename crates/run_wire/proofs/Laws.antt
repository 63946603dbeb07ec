-- Laws of runs: the kinds of their fields, and what the fields after the first few make of the octets that are left.
use Prim.Native.Nat.{ℕ, zero, suc, ◌+◌, ◌-◌, ◌≤◌, ◌<◌}
use mathlib.Core.Path.{◌≡◌, refl, sym, ap, ◌∙◌, subst}
use mathlib.Core.List.{List, [], ◌∷◌}
use native.Mathlib.Omega.{arith}
use lib.ListN.{length, take, drop, get_or, length-drop}
use lib.Seq.{drop-drop}
use Rattle.format.specs.Wire.{short, bad, took, taken}
use Rattle.format.specs.Field.{Symbol, Kind, start, kinds}
use Rattle.format.specs.Run.{refused, parts, with_first, parts_of}
use Rattle.std.specs.Prelude.{Result, Ok, Err}
use Rattle.format.proofs.Lists.{drop_next, drop_none}
use Rattle.octets.proofs.Slices.{lent_rest}
use Rattle.stanza_form.specs.Code.{field_at, fields_of}
use Rattle.stanza_form.proofs.Codes.{field_at_lem}
use Rattle.format.proofs.Wire.{fits}
use Rattle.format.proofs.Run.{more}
use Rattle.stanza_form.specs.declared.FieldDesc.{FieldDesc}
use Rattle.stanza_form.specs.Fields.{no_field, fields_from}
use Rattle.stanza_form.specs.Forms.{kind_of, held_by, symbols_in, or_none}
use Rattle.buffer.specs.declared.lack.Lack.{Lack}
use Rattle.buffer.specs.declared.lack.Lack.TheVariants.{Missing, Fault}
use Rattle.field_wire.specs.Wire.{taken_in}
use Rattle.run_wire.specs.Run.{kinds_from, kinds_of, number_of}
use Rattle.stanza_form.specs.Fields.{kind_for}

-- the kinds of a stanza's fields, and of a run of them
module _ (s : List ℕ) (fs : List FieldDesc) where
  pub kinds_from_lem : (names ends : List ℕ) (k m : ℕ) → kinds (fields_from s fs names ends k m) ≡ kinds_from s fs k m
  kinds_from_lem names ends k zero = refl
  kinds_from_lem names ends k (suc m) = ap (λ l. kind_for s (get_or fs k no_field) ∷ l) (kinds_from_lem names ends (k + 1) m)

  pub kinds_many : (k m : ℕ) → length (kinds_from s fs k m) ≡ m
  kinds_many k zero = refl
  kinds_many k (suc m) = ap suc (kinds_many (k + 1) m)

  kinds_drop : (j k m : ℕ) → drop j (kinds_from s fs k (j + m)) ≡ kinds_from s fs (k + j) m
  kinds_drop zero k m = let p : 0 + m ≡ m = omega arith in let q : k + 0 ≡ k = omega arith in rw (p, q)
  kinds_drop (suc j) k m =
      let p : suc j + m ≡ suc (j + m) = omega arith in
      let q : k + 1 + j ≡ k + suc j = omega arith in
      rw p (kinds_drop j (k + 1) m ∙ ap (λ i. kinds_from s fs i m) q)

  kinds_take : (n k m : ℕ) → take n (kinds_from s fs k (n + m)) ≡ kinds_from s fs k n
  kinds_take zero k m = refl
  kinds_take (suc n) k m = let p : suc n + m ≡ suc (n + m) = omega arith in rw p (ap (λ l. kind_for s (get_or fs k no_field) ∷ l) (kinds_take n (k + 1) m))

  pub kinds_run : (j n m : ℕ) → j + n ≤ m → take n (drop j (kinds_from s fs 0 m)) ≡ kinds_from s fs j n
  kinds_run j n m h =
      let p : m ≡ j + (n + (m - j - n)) = omega arith in
      let q : 0 + j ≡ j = omega arith in
      rw p (ap (take n) (kinds_drop j 0 (n + (m - j - n)) ∙ ap (λ i. kinds_from s fs i (n + (m - j - n))) q) ∙ kinds_take n j (m - j - n))

-- the kinds of a run
pub kinds_drop_of : (s : List ℕ) (k : ℕ) (fs : List FieldDesc) → drop k (kinds_of s fs) ≡ kinds_of s (drop k fs)
kinds_drop_of s zero fs = refl
kinds_drop_of s (suc k) [] = refl
kinds_drop_of s (suc k) (d ∷ fs) = kinds_drop_of s k fs

pub fields_drop : (k : ℕ) (cs : List ℕ) → drop k (fields_of cs) ≡ fields_of (drop k cs)
fields_drop zero cs = refl
fields_drop (suc k) [] = refl
fields_drop (suc k) (c ∷ cs) = fields_drop k cs

fields_take : (k : ℕ) (cs : List ℕ) → take k (fields_of cs) ≡ fields_of (take k cs)
fields_take zero cs = refl
fields_take (suc k) [] = refl
fields_take (suc k) (c ∷ cs) = ap (λ l. field_at c ∷ l) (fields_take k cs)

-- the next field of a run of codes, and none
module _ (s : List ℕ) (cs : List ℕ) (k : ℕ) where
  pub next_kind : k < length cs → (d : FieldDesc) → d ≡ field_at (get_or cs k 0) → kinds_of s (fields_of (drop k cs)) ≡ kind_for s d ∷ kinds_of s (fields_of (drop (k + 1) cs))
  next_kind h d e = rw (drop_next cs k h, e)

  pub no_kind : length cs ≤ k → kinds_of s (fields_of (drop k cs)) ≡ []
  no_kind h = rw (drop_none cs k h)

-- the fields from number k on, `m` of them, are those of the codes there
pub run_of : (s : List ℕ) (cs : List ℕ) (k m : ℕ) → k + m ≤ length cs → kinds_from s (fields_of cs) k m ≡ kinds_of s (fields_of (take m (drop k cs)))
run_of s cs k zero h = refl
run_of s cs k (suc m) h =
    let q : k < length cs = omega arith in
    rw (drop_next cs k q, field_at_lem cs k) (ap (λ l. kind_for s (field_at (get_or cs k 0)) ∷ l) (run_of s cs (k + 1) m (omega arith)))

-- After k fields of a run ks on octets xs: what the other fields, ls, make of the octets that are left, ys, tells what the run makes of xs.
pub record Ahead (ks : List Kind) (xs : List ℕ) (ls : List Kind) (ys : List ℕ) (k : ℕ) : Type 0 where
  pub refuses : (n i : ℕ) → parts_of ls ys ≡ refused n i → parts_of ks xs ≡ refused n (k + i)
  pub accepts : (ps : List (List ℕ)) → parts_of ls ys ≡ parts ps → (qs : List (List ℕ)) × (parts_of ks xs ≡ parts qs)

pub ahead_start : (ks : List Kind) (xs : List ℕ) → Ahead ks xs ks xs 0
ahead_start ks xs = record { refuses = λ n i e. let q : i ≡ 0 + i = omega arith in e ∙ ap (refused n) q; accepts = λ ps e. (ps, e) }

module _ {ks : List Kind} {xs : List ℕ} {ls : List Kind} {ys : List ℕ} {k : ℕ} (a : Ahead ks xs ls ys k) (j : Kind) (js : List Kind) (e : ls ≡ j ∷ js) where
  pub ahead_short : taken (start j) ys ≡ short → parts_of ks xs ≡ refused 8 (k + 1)
  unfolding parts_of
  ahead_short t = a.refuses 8 1 (rw (e, t))

  pub ahead_bad : taken (start j) ys ≡ bad → parts_of ks xs ≡ refused 9 (k + 1)
  unfolding parts_of
  ahead_bad t = a.refuses 9 1 (rw (e, t))

  pub ahead_took : (w : ℕ) → taken (start j) ys ≡ took w → Ahead ks xs js (drop w ys) (k + 1)
  ahead_took w t = record {
    refuses = λ n i r. let q : k + suc i ≡ k + 1 + i = omega arith in a.refuses n (suc i) (on ∙ ap (with_first (take w ys)) r) ∙ ap (refused n) q;
    accepts = λ ps r. a.accepts (take w ys ∷ ps) (on ∙ ap (with_first (take w ys)) r);
  }
    where
      on : parts_of ls ys ≡ with_first (take w ys) (parts_of js (drop w ys))
      on = rw e (more j js ys w t)

module _ {ks : List Kind} {xs : List ℕ} {ls : List Kind} {ys : List ℕ} {k : ℕ} (a : Ahead ks xs ls ys k) (e : ls ≡ []) where
  pub ahead_over : 1 ≤ length ys → parts_of ks xs ≡ refused 10 (k + 1)
  unfolding parts_of
  ahead_over h = a.refuses 10 1 (rw e (by ys h))
    where
      by : (zs : List ℕ) → 1 ≤ length zs → parts_of [] zs ≡ refused 10 1
      by [] h = absurd (omega arith)
      by (z ∷ zs) h = refl

  pub ahead_done : ys ≡ [] → (qs : List (List ℕ)) × (parts_of ks xs ≡ parts qs)
  unfolding parts_of
  ahead_done q = a.accepts [] (rw (e, q))

-- a turn of the loop over a run: k fields are taken, the octets from `at` on are left, and t is what the next field, d, takes of them
module _ (cs p : List ℕ) (k at : ℕ) (t : Result ℕ Lack) (d : FieldDesc) (e : d ≡ field_at (get_or cs k 0))
    (a : (s : List ℕ) → Ahead (kinds_of s (fields_of cs)) p (kinds_of s (fields_of (drop k cs))) (drop at p) k) (h : k < length cs)
    (g : (l : List Symbol) → taken_in t ≡ taken (start (kind_of l d.form)) (take (length p - at) (drop at p))) where
  here : (s : List ℕ) → taken (start (kind_for s d)) (drop at p) ≡ taken_in t
  here s = ap (taken (start (kind_for s d))) (sym (lent_rest p at)) ∙ sym (g (or_none (symbols_in (held_by d.form) s d.qualifiers_at d.qualifiers_end)))

  pub turn_lacks : (w : Lack) → t ≡ Err w → (s : List ℕ) → parts_of (kinds_of s (fields_of cs)) p ≡ refused (number_of w) (k + 1)
  turn_lacks Missing q s = ahead_short (a s) _ _ (next_kind s cs k h d e) (here s ∙ ap taken_in q)
  turn_lacks Fault q s = ahead_bad (a s) _ _ (next_kind s cs k h d e) (here s ∙ ap taken_in q)

  module _ (w : ℕ) (q : t ≡ Ok w) where
    pub turn_within : at ≤ length p → at + w ≤ length p
    turn_within l = omega (arith, fits (start (kind_for [] d)) (drop at p) w (here [] ∙ ap taken_in q), length-drop at p)

    pub turn_took : (s : List ℕ) → Ahead (kinds_of s (fields_of cs)) p (kinds_of s (fields_of (drop (k + 1) cs))) (drop (at + w) p) (k + 1)
    turn_took s =
        subst (λ ys. Ahead (kinds_of s (fields_of cs)) p (kinds_of s (fields_of (drop (k + 1) cs))) ys (k + 1)) (drop-drop w at p)
        (ahead_took (a s) _ _ (next_kind s cs k h d e) w (here s ∙ ap taken_in q))
