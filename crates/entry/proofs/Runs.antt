-- The runs of the fields that the judge finds.
use Prim.Native.Nat.{ℕ, zero, suc, ◌+◌, ◌-◌, ◌≤◌, ◌<◌}
use mathlib.Core.Path.{◌≡◌, refl, sym, ap, ◌∙◌, subst}
use mathlib.Core.Bool.{Bool, true, false, ◌&&◌}
use mathlib.Core.List.{List, [], ◌∷◌}
use native.Mathlib.Omega.{arith}
use lib.ListN.{length, take, drop, get_or, length-take, length-drop}
use Rattle.std.proofs.lemmas.List.{get_or-take, get_or-drop}
use lib.Dec.{leb}
use borrow.Author.Tests.{leb-true}
use Rattle.format.specs.Lists.{all_of}
use Rattle.format.specs.Field.{Kind, kinds}
use Rattle.format.specs.Judge.{Description, Judged, described, max_stanza, judged}
use Rattle.format.specs.Stored.{Lent, or_rejected, judged_stored, judged_of}
use Rattle.format.specs.Entries.{run}
use Rattle.format.specs.Demands.{tails_last, sound_kind, Sound}
use Rattle.format.proofs.Lists.{and_left, and_right}
use Rattle.format.proofs.Judge.{judges}
use Rattle.format.proofs.Demands.{run_fit}
use Rattle.stanza_form.specs.declared.FieldDesc.{FieldDesc}
use Rattle.stanza_judge.specs.declared.Outline.{Outline}
use Rattle.stanza_form.specs.Fields.{Placed, no_field, kind_for}
use Rattle.stanza_form.specs.Code.{field_at, fields_of}
use Rattle.stanza_form.proofs.Codes.{codes_many}
use Rattle.stanza_judge.specs.Stanza.{OutlinedAs, Outlined}
use Rattle.stanza_stored.specs.Stored.{lent_as}
use Rattle.run_wire.specs.Run.{kinds_from, kinds_of, UsableRun}
use Rattle.run_wire.proofs.Laws.{kinds_from_lem, kinds_many, kinds_run, run_of, fields_drop}
use Rattle.entry.proofs.Laws.{accepted, accepted_count}

-- a test that holds of every field of a run
all_in : (f : Kind → Bool) (s : List ℕ) (fs : List FieldDesc) → all_of f (kinds_of s fs) ≡ true → (k : ℕ) → k < length fs → f (kind_for s (get_or fs k no_field)) ≡ true
all_in f s [] h k l = absurd (omega arith)
all_in f s (d ∷ fs) h zero l = and_left (f (kind_for s d)) (all_of f (kinds_of s fs)) h
all_in f s (d ∷ fs) h (suc k) l = all_in f s fs (and_right (f (kind_for s d)) (all_of f (kinds_of s fs)) h) k (omega arith)

-- the codes of a run's fields
abbrev pub run_codes : ℕ → ℕ → List ℕ → List ℕ
run_codes first many codes = take (first - 1 + many - (first - 1)) (drop (first - 1) codes)

fields_take : (m : ℕ) (codes : List ℕ) → fields_of (take m codes) ≡ take m (fields_of codes)
fields_take zero codes = refl
fields_take (suc m) [] = refl
fields_take (suc m) (c ∷ codes) = ap (λ fs. field_at c ∷ fs) (fields_take m codes)

run_fields : (j m : ℕ) (codes : List ℕ) → fields_of (take m (drop j codes)) ≡ take m (drop j (fields_of codes))
run_fields j m codes = fields_take m (drop j codes) ∙ ap (take m) (sym (fields_drop j codes))

run_field : (j m : ℕ) (codes : List ℕ) (k : ℕ) → k < m → get_or (fields_of (take m (drop j codes))) k no_field ≡ get_or (fields_of codes) (j + k) no_field
run_field j m codes k l = ap (λ fs. get_or fs k no_field) (run_fields j m codes) ∙ get_or-take m (drop j (fields_of codes)) k no_field l ∙ get_or-drop j (fields_of codes) k no_field

run_many : (j m : ℕ) (codes : List ℕ) → j + m ≤ length codes → length (fields_of (take m (drop j codes))) ≡ m
run_many j m codes h = omega (arith, codes_many (take m (drop j codes)), length-take m (drop j codes), length-drop j codes)

module _ {j : Judged} {s codes : List ℕ} {o : Outline} (q : OutlinedAs j s codes o) where
  all_kinds : kinds q.found.fields ≡ kinds_from s (fields_of codes) 0 o.count
  all_kinds = q.coded ∙ kinds_from_lem s (fields_of codes) [] [] 0 o.count

  pub kinds_length : length (kinds q.found.fields) ≡ o.count
  kinds_length = ap length all_kinds ∙ kinds_many s (fields_of codes) 0 o.count

-- a run among so many fields
module _ (first many count : ℕ) (r : true ≡ leb 1 first && leb (first - 1 + many) count) where
  in_count : first - 1 + many ≤ count
  in_count = leb-true (first - 1 + many) count (and_right (leb 1 first) (leb (first - 1 + many) count) (sym r))

module _ {j : Judged} {s codes : List ℕ} {o : Outline} (q : OutlinedAs j s codes o) (room : o.count ≤ length codes) (first many : ℕ) (r : true ≡ leb 1 first && leb (first - 1 + many) o.count) where
  lent_many : first - 1 + many - (first - 1) ≡ many
  lent_many = omega arith

  pub run_kinds : run first many (kinds q.found.fields) ≡ kinds_of s (fields_of (run_codes first many codes))
  run_kinds =
      ap (λ ks. take many (drop (first - 1) ks)) (all_kinds q) ∙ kinds_run s (fields_of codes) (first - 1) many o.count (in_count first many o.count r)
      ∙ run_of s codes (first - 1) many (omega (arith, room, in_count first many o.count r)) ∙ ap (λ m. kinds_of s (fields_of (take m (drop (first - 1) codes)))) (sym lent_many)

module _ (l : Lent) {s codes : List ℕ} {o : Outline} (q : Outlined l s codes o) (n : o.number ≡ 0) (room : o.count ≤ length codes) (first many : ℕ) (r : true ≡ leb 1 first && leb (first - 1 + many) o.count) where
  sound : Sound q.found
  sound = judges l q.found (accepted q n)

  -- it lies in an array of 64 codes
  pub run_within : first - 1 + many ≤ 64
  run_within = omega (arith, in_count first many o.count r, accepted_count l q n)

  placed_there : (k : ℕ) → k < many → Placed s (get_or (fields_of (take many (drop (first - 1) codes))) k no_field)
  placed_there k h = subst (Placed s) (sym (run_field (first - 1) many codes k h)) (q.placed n (first - 1 + k) (omega (arith, in_count first many o.count r)))

  pub usable_run : length s ≤ 8192 → UsableRun s (fields_of (run_codes first many codes))
  usable_run h =
      let e = run_kinds q room first many r in
      let z : first - 1 + many - (first - 1) ≡ many = omega arith in
      let m = run_many (first - 1) many codes (omega (arith, room, in_count first many o.count r)) in
      let f = run_fit q.found sound first many in
      rw z (record {
        short = h;
        within = omega (arith, m, in_count first many o.count r, accepted_count l q n);
        fields = λ k i. record {
          placed = placed_there k (omega (arith, m, i));
          sound = all_in sound_kind s (fields_of (take many (drop (first - 1) codes))) (rw z at (subst (λ ks. all_of sound_kind ks ≡ true) e f.sound)) k i;
        };
        tails = rw z at (subst (λ ks. tails_last ks ≡ true) e f.tails);
      })

-- a description that is accepted is short
or_short : (n i : ℕ) (b : Bool) (j : Judged) (d : Description) → or_rejected n i b j ≡ described d → b ≡ true
or_short n i true j d e = refl
or_short n i false j d e = let z : ◌≡◌ {A = ℕ} 0 1 = cc in absurd (omega arith)

pub file_short : (s : List ℕ) (d : Description) → judged s ≡ described d → length s ≤ 8192
unfolding judged
file_short s d e = leb-true (length s) max_stanza (or_short 1 0 (leb (length s) max_stanza) _ d e)

stored_short : (edition : ℕ) (s : List ℕ) (d : Description) → judged_stored edition s ≡ described d → length s ≤ 8192
unfolding judged_stored
stored_short edition s d e = leb-true (length s) max_stanza (or_short 1 0 (leb (length s) max_stanza) _ d e)

pub lent_short : (in_file : Bool) (edition : ℕ) (s : List ℕ) (d : Description) → judged_of (lent_as in_file edition s) ≡ described d → length s ≤ 8192
lent_short true edition s d e = file_short s d e
lent_short false edition s d e = stored_short edition s d e
