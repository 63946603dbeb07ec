-- What printing answers, and when a text surely fits.
use Prim.Native.Nat.{ℕ, zero, suc, ◌+◌, ◌-◌, ◌*◌, ◌≤◌, ◌<◌}
use mathlib.Core.Path.{◌≡◌, refl, sym, ap, ◌∙◌}
use mathlib.Core.Bool.{Bool, true, false, ◌&&◌, true≢false}
use mathlib.Core.List.{List, [], ◌∷◌}
use native.Mathlib.Omega.{arith}
use lib.ListN.{length, get_or}
use lib.Dec.{leb}
use borrow.Author.Tests.{le-leb, lt-leb}
use Rattle.format.specs.Lists.{any_of, all_of}
use Rattle.format.specs.Octets.{Octets}
use Rattle.format.specs.Field.{Kind, tail}
use Rattle.format.specs.Catalogue.{Entry, TypeName, catalogued}
use Rattle.format.specs.Run.{shown, refused, parts, parts_of, text_of_parts, text_of}
use Rattle.format.specs.Stored.{Lent}
use Rattle.format.specs.Entries.{done, refusal, of_catalogue, printing_of}
use Rattle.format.specs.Demands.{tails_last, sound_kind, sound_names}
use Rattle.format.proofs.Field.{is_bitmap}
use Rattle.format.proofs.Run.{no_tail}
use Rattle.format.proofs.Bound.{tail_bitmap, plain_within, text_within}
use Rattle.stanza_form.specs.declared.FieldDesc.{FieldDesc}
use Rattle.stanza_judge.specs.declared.Outline.{Outline}
use Rattle.stanza_form.specs.Fields.{no_field}
use Rattle.stanza_form.specs.Code.{field_at, fields_of}
use Rattle.stanza_form.proofs.Codes.{read_at, codes_many}
use Rattle.std.specs.Prelude.{Some, slice_get}
use Rattle.std.proofs.lemmas.Option.{get_or_from_slice_get, slice_get_within}
use Rattle.stanza_judge.specs.Stanza.{Outlined}
use Rattle.run_wire.specs.Run.{kinds_of}
use Rattle.stanza_form.specs.Fields.{kind_for}
use Rattle.run_print.specs.Printing.{Accepted}
use Rattle.entry.specs.Entries.{run_text}
use Rattle.entry_print.specs.Needs.{Needs}
use Rattle.entry.proofs.Laws.{accepted, refused as not-judged}
use Rattle.entry.proofs.Runs.{run_codes, kinds_length, run_kinds}

-- a test that holds of every field of a run
all_fields : (f : Kind → Bool) (s : List ℕ) (fs : List FieldDesc) → ((k : ℕ) → k < length fs → f (kind_for s (get_or fs k no_field)) ≡ true) → all_of f (kinds_of s fs) ≡ true
all_fields f s [] h = refl
all_fields f s (d ∷ fs) h =
    let a : f (kind_for s d) ≡ true = h 0 (omega arith) in
    rw a (all_fields f s fs (λ k l. h (suc k) (omega arith)))

kinds_count : (s : List ℕ) (fs : List FieldDesc) → length (kinds_of s fs) ≡ length fs
kinds_count s [] = refl
kinds_count s (d ∷ fs) = ap suc (kinds_count s fs)

-- a run whose last field is not R[L] has no R[L]
plain_kind : (k : Kind) → tail k ≡ false → is_bitmap k ≡ false
plain_kind k h = by (is_bitmap k) refl
  where
    by : (b : Bool) → is_bitmap k ≡ b → is_bitmap k ≡ false
    by true e = absurd (true≢false (sym (tail_bitmap k e) ∙ h))
    by false e = e

plain_run : (s : List ℕ) (fs : List FieldDesc) (k : ℕ) → tails_last (kinds_of s fs) ≡ true → length fs ≡ suc k → is_bitmap (kind_for s (get_or fs k no_field)) ≡ false → any_of is_bitmap (kinds_of s fs) ≡ false
plain_run s [] k t h f = refl
plain_run s (d ∷ []) zero t h f = rw f
plain_run s (d ∷ []) (suc k) t h f = absurd (omega arith)
plain_run s (d ∷ e ∷ fs) zero t h f = absurd (omega arith)
plain_run s (d ∷ e ∷ fs) (suc k) t h f =
    let (a, b) = no_tail (kind_for s d) (kind_for s e) (kinds_of s fs) t in
    rw (plain_kind (kind_for s d) a) (plain_run s (e ∷ fs) k b (omega arith) f)

module _ (ns : List TypeName) (g : sound_names ns ≡ true) (s : List ℕ) (fs : List FieldDesc) (xs : List ℕ) (b : Octets xs) (a : Accepted s fs xs) where
  all_sound : all_of sound_kind (kinds_of s fs) ≡ true
  all_sound = all_fields sound_kind s fs (λ k l. (a.usable.fields k l).sound)

  text_parts : text_of ns (kinds_of s fs) xs ≡ text_of_parts (shown ns) (kinds_of s fs) a.taken_all.0
  unfolding text_of
  text_parts = rw a.taken_all.1

  pub surely : 1 ≤ length fs → is_bitmap (kind_for s (get_or fs (length fs - 1) no_field)) ≡ false → (room : ℕ) → 4 * length xs + 64 * length fs ≤ room → length (text_of ns (kinds_of s fs) xs) ≤ room
  surely h f room l =
      let p : any_of is_bitmap (kinds_of s fs) ≡ false = plain_run s fs (length fs - 1) a.usable.tails (omega arith) f in
      omega (arith, plain_within ns g (kinds_of s fs) p all_sound xs b a.taken_all.0 a.taken_all.1, ap length text_parts, kinds_count s fs)

  pub text_short : length (text_of ns (kinds_of s fs) xs) ≤ 1048576
  text_short =
      omega (arith, text_within ns g (kinds_of s fs) a.usable.tails all_sound (omega (arith, kinds_count s fs, a.usable.within)) xs b a.short a.taken_all.0 a.taken_all.1, ap length text_parts)

-- the same by the code of the last field
pub surely_coded : (ns : List TypeName) → sound_names ns ≡ true → (s codes xs : List ℕ) → Octets xs → Accepted s (fields_of codes) xs → (c : ℕ) → slice_get codes (length codes - 1) ≡ Some c → (d : FieldDesc) → d ≡ field_at c
    → is_bitmap (kind_for s d) ≡ false → (room : ℕ) → 4 * length xs + 64 * length codes ≤ room → length (text_of ns (kinds_of s (fields_of codes)) xs) ≤ room
surely_coded ns g s codes xs b a c l d e f room k =
    let h = slice_get_within codes (length codes - 1) c l in
    let m = codes_many codes in
    let q : length (fields_of codes) - 1 ≡ length codes - 1 = omega (arith, m) in
    let z : d ≡ get_or (fields_of codes) (length codes - 1) no_field = read_at codes (length codes - 1) (e ∙ ap field_at (sym (get_or_from_slice_get codes (length codes - 1) c 0 l))) in
    surely ns g s (fields_of codes) xs b a (omega (arith, m, h)) (rw (q, ← z) f) room (omega (arith, m, k))

-- what a run answers
pub text_answer : (ns : List TypeName) (ks : List Kind) (xs : List ℕ) (ps : List (List ℕ)) → parts_of ks xs ≡ parts ps → run_text ns ks xs ≡ done (text_of ns ks xs)
unfolding text_of
text_answer ns ks xs ps e = rw e

pub no_answer : (ns : List TypeName) (ks : List Kind) (xs : List ℕ) (n i : ℕ) → parts_of ks xs ≡ refused n i → run_text ns ks xs ≡ refusal n i
no_answer ns ks xs n i e = rw e

-- printing, refusal by refusal
module _ (l : Lent) (es : List Entry) (names : List ℕ) where
  pub print_long : (first many : ℕ) (xs : List ℕ) → 65535 < length xs → printing_of l first many es names xs ≡ refusal 1 0
  unfolding printing_of
  print_long first many xs h = rw (lt-leb (length xs) 65535 h)

  module _ {s codes : List ℕ} {o : Outline} (q : Outlined l s codes o) where
    pub print_rejected : (first many : ℕ) (xs : List ℕ) → length xs ≤ 65535 → 0 < o.number → printing_of l first many es names xs ≡ refusal o.number o.line
    unfolding printing_of
    print_rejected first many xs h n = rw (le-leb (length xs) 65535 h, not-judged q (λ z. omega arith))

    module _ (n : o.number ≡ 0) where
      pub print_no_run : (first many : ℕ) (xs : List ℕ) → length xs ≤ 65535 → false ≡ leb 1 first && leb (first - 1 + many) o.count → printing_of l first many es names xs ≡ refusal 6 0
      unfolding printing_of
      print_no_run first many xs h r = rw (le-leb (length xs) 65535 h, accepted q n, kinds_length q, ← r)

      pub print_runs : o.count ≤ length codes → (first many : ℕ) → true ≡ leb 1 first && leb (first - 1 + many) o.count → (xs : List ℕ) → length xs ≤ 65535
          → printing_of l first many es names xs ≡ of_catalogue (catalogued names es) (λ ns. run_text ns (kinds_of s (fields_of (run_codes first many codes))) xs)
      unfolding printing_of
      print_runs room first many r xs h = rw (le-leb (length xs) 65535 h, accepted q n, kinds_length q, ← r, run_kinds q room first many r)

-- the room that a text needs: 0 if it fits, else its length
pub fitting_needs : (room : ℕ) (t : List ℕ) → length t ≤ room → length t ≤ 1048576 → Needs room 0 t
fitting_needs room t h l = record { told = λ z. absurd (omega arith); fits = λ z. h; short = l }

pub measured_needs : (room r : ℕ) (t : List ℕ) → r ≡ 0 + length t → length t ≤ 1048576 → Needs room r t
measured_needs room r t e l = record { told = λ z. omega arith; fits = λ z. omega arith; short = l }
