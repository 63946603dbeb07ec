-- No refusal has the number 0, so 0 is answered only with a result.
use Prim.Native.Nat.{ℕ, ◌≤◌}
use mathlib.Core.Path.{◌≡◌, refl, sym, ◌∙◌}
use mathlib.Core.Bool.{Bool, true, false, cond, true≢false}
use mathlib.Core.List.{List, ◌∷◌}
use native.Mathlib.Omega.{arith}
use lib.ListN.{length}
use lib.Dec.{leb, eqb}
use borrow.Author.Tests.{leb-true, eq-eqb}
use Rattle.format.specs.Field.{Kind, kinds}
use Rattle.format.specs.Judge.{Description, Judged, rejected, described}
use Rattle.format.specs.Stored.{Lent, judged_of}
use Rattle.format.specs.Name.{is_wire_name}
use Rattle.format.specs.Run.{max_rdata}
use Rattle.format.specs.Catalogue.{Entry, TypeName, Catalogued, bad_entry, known, catalogued}
use Rattle.format.specs.Entries.{Answer, done, refusal, max_text, or_refusal, of_stanza, is_run, of_catalogue, printing_of, reading_of, if_room, room, outcome}
use Rattle.entry.proofs.Refusals.{stored_refusals, print_refusals, read_refusals, Rows, print_rows, read_rows, not_zero}

-- the refusals of printing and reading
abbrev pub Told : Answer → Type 0
Told (done t) = Unit {0}
Told (refusal n i) = eqb n 0 ≡ false

told : (l : Lent) (many : ℕ) (numbers : List ℕ) (a : Answer) → Rows l many 0 numbers a → Told a
told l many numbers (done t) r = tt
told l many numbers (refusal n i) r = not_zero r.fixed

pub print_told : (l : Lent) (first many : ℕ) (es : List Entry) (names xs : List ℕ) → Told (printing_of l first many es names xs)
print_told l first many es names xs = told l many (print_refusals (13 ∷ stored_refusals l)) (printing_of l first many es names xs) (print_rows l first many 0 es names xs)

pub read_told : (l : Lent) (first many : ℕ) (es : List Entry) (names origin text : List ℕ) → Told (reading_of l first many es names origin text)
read_told l first many es names origin text =
    told l many (read_refusals (13 ∷ stored_refusals l)) (reading_of l first many es names origin text) (read_rows l first many 0 es names origin text)

-- if the number is 0, the answer is a result for which there is room
pub zero_done : (a : Answer) → Told a → (out : List ℕ) (at : ℕ) → (outcome out at (if_room (room out at) a)).number ≡ 0 → (t : List ℕ) × (a ≡ done t) × (length t ≤ room out at)
zero_done (refusal n i) h out at z = absurd (true≢false (sym (eq-eqb n 0 z) ∙ h))
zero_done (done t) h out at z = by (leb (length t) (room out at)) refl z
  where
    by : (b : Bool) → leb (length t) (room out at) ≡ b → (outcome out at (cond b (done t) (refusal 12 (length t)))).number ≡ 0 → (u : List ℕ) × (done t ≡ done u) × (length u ≤ room out at)
    by true l z = (t, refl, leb-true (length t) (room out at) l)
    by false l z = absurd (true≢false (sym (eq-eqb 12 0 z)))

-- and the run is a run of an accepted description, and no entry is bad
pub record HasRun (l : Lent) (first many : ℕ) (es : List Entry) (names : List ℕ) : Type 0 where
  pub description : Description
  pub accepted : judged_of l ≡ described description
  pub run : is_run first many (kinds description.fields) ≡ true
  pub types : List TypeName
  pub known_there : catalogued names es ≡ known types

or_test : (n : ℕ) (b : Bool) (a : Answer) (t : List ℕ) → or_refusal n b a ≡ done t → b ≡ true
or_test n true a t e = refl
or_test n false a t e = cc

or_done : (n : ℕ) (b : Bool) (a : Answer) (t : List ℕ) → or_refusal n b a ≡ done t → a ≡ done t
or_done n true a t e = e
or_done n false a t e = cc

-- the names of types
abbrev Known : List Entry → List ℕ → Type 0
Known es names = (c : List TypeName) × (catalogued names es ≡ known c)

names_known : (es : List Entry) (names : List ℕ) (f : List TypeName → Answer) (t : List ℕ) → of_catalogue (catalogued names es) f ≡ done t → Known es names
names_known es names f t e = by (catalogued names es) refl e
  where
    by : (r : Catalogued) → catalogued names es ≡ r → of_catalogue r f ≡ done t → Known es names
    by (bad_entry i) q e = let z : ◌≡◌ {A = ℕ} 0 1 = cc in absurd (omega arith)
    by (known c) q e = (c, q)

stanza_run : (l : Lent) (first many : ℕ) (es : List Entry) (names : List ℕ) (f : List Kind → Answer) (t : List ℕ) → ((ks : List Kind) → f ks ≡ done t → Known es names)
    → of_stanza (judged_of l) (λ ks. or_refusal 6 (is_run first many ks) (f ks)) ≡ done t → HasRun l first many es names
stanza_run l first many es names f t k e = by (judged_of l) refl e
  where
    by : (j : Judged) → judged_of l ≡ j → of_stanza j (λ ks. or_refusal 6 (is_run first many ks) (f ks)) ≡ done t → HasRun l first many es names
    by (rejected n i) q e = let z : ◌≡◌ {A = ℕ} 0 1 = cc in absurd (omega arith)
    by (described d) q e =
        let ks = kinds d.fields in
        let (c, n) = k ks (or_done 6 (is_run first many ks) (f ks) t e) in
        record { description = d; accepted = q; run = or_test 6 (is_run first many ks) (f ks) t e; types = c; known_there = n }

pub print_run : (l : Lent) (first many : ℕ) (es : List Entry) (names xs t : List ℕ) → printing_of l first many es names xs ≡ done t → HasRun l first many es names
unfolding printing_of
print_run l first many es names xs t e = stanza_run l first many es names _ t (λ ks q. names_known es names _ t q) (or_done 1 (leb (length xs) max_rdata) _ t e)

-- a text that is read is not too long
pub read_short : (l : Lent) (first many : ℕ) (es : List Entry) (names origin text xs : List ℕ) → reading_of l first many es names origin text ≡ done xs → length text ≤ max_text
unfolding reading_of
read_short l first many es names origin text xs e = leb-true (length text) max_text (or_test 1 (leb (length text) max_text) _ xs e)

pub read_run_lem : (l : Lent) (first many : ℕ) (es : List Entry) (names origin text xs : List ℕ) → reading_of l first many es names origin text ≡ done xs → HasRun l first many es names
unfolding reading_of
read_run_lem l first many es names origin text xs e =
    stanza_run l first many es names _ xs (λ ks q. names_known es names _ xs (or_done 7 (is_wire_name origin) _ xs q)) (or_done 1 (leb (length text) max_text) _ xs e)
