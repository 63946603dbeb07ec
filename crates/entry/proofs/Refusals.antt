-- Every refusal is a row of the table, with a place below 2 to the 32.
use Prim.Native.Nat.{ℕ, zero, suc, ◌+◌, ◌-◌, ◌≤◌, ◌<◌}
use mathlib.Core.Path.{◌≡◌, refl, sym}
use mathlib.Core.Bool.{Bool, true, false, not, cond, ◌||◌, ◌&&◌, true≢false}
use mathlib.Core.List.{List, [], ◌∷◌, ◌++◌}
use Rattle.std.specs.Prelude.{Option, None, Some}
use native.Mathlib.Omega.{arith}
use lib.ListN.{length, take, drop, length-take, length-drop, length-append}
use lib.Dec.{leb, ltb, eqb}
use borrow.Author.Tests.{leb-true, ltb-true, eqb-true}
use Rattle.format.specs.Lists.{null, any_of, all_of, flat, cons_first, span, parting, split}
use Rattle.format.specs.Octets.{in_range, blank, among, split_on}
use Rattle.format.specs.Wire.{Taken, short, bad, took, taken}
use Rattle.format.specs.Text.{pieces_from, pieces}
use Rattle.format.specs.Field.{Kind, Part, start, Field, kinds}
use Rattle.format.specs.Token.{Token, tokens}
use Rattle.format.specs.Name.{is_wire_name}
use Rattle.format.specs.Lines.{placed, without_empty_last, lines_of, lines}
use Rattle.format.specs.Grammar.{Header, header_line, FieldLine, field_line}
use Rattle.format.specs.Types.{Meaning, unknown, forbidden, means, meaning}
use Rattle.format.specs.Judge.{Description, Progress, before_header, after_header, Verdict, faulty, goes_on, after_tail, same_name, of_meaning, of_field_line, of_header, as_set, content_line, ignored, line_verdict, Judged, rejected, described, after_line, judged_from, max_stanza, judged}
use Rattle.format.specs.Stored.{strings_in, whole_strings, tagged, stored_lines, is_edition, or_rejected, judged_stored, Lent, as_file, as_stored, judged_of}
use Rattle.format.specs.Run.{Got, no_token, bad_token, got, read_field, Parts, refused, parts, with_first, after_taking, parts_of, max_rdata, after_reading, read_run}
use Rattle.format.specs.Catalogue.{Entry, TypeName, Catalogued, bad_entry, known, entry_after, after_entry, catalogued_from, catalogued}
use Rattle.format.specs.Entries.{Answer, done, refusal, max_text, or_refusal, of_stanza, of_parts, is_run, run, of_catalogue, printing_of, reading_of}
use Rattle.format.proofs.Lists.{and_right}
use Rattle.format.proofs.Judge.{judges}
use Rattle.format.proofs.Demands.{kinds_length}
use Rattle.entry.specs.Refusals.{line_count, IsLine, InRun, Fixed, over_limit, bad_line, no_line, unknown_there, not_allowed, one_more, no_run, no_origin, cut_short, breaks_rule, left_over, over_rdata, no_room, bad_entry_lem, cut_string, bad_tag, no_edition, judge_numbers, judge_stored_numbers, judge_numbers_of}

either : {A : Type 0} (P : A → Type 0) (b : Bool) (x y : A) → P x → P y → P (cond b x y)
either P true x y h k = h
either P false x y h k = k

-- a stanza has at most one line more than octets
parting_length : (b : Bool) (x : ℕ) (ts : List (List ℕ)) → length (parting b x ts) ≤ length ts + 1
parting_length true x ts = omega arith
parting_length false x [] = omega arith
parting_length false x (t ∷ ts) = omega arith

split_length : (f : ℕ → Bool) (xs : List ℕ) → length (split f xs) ≤ length xs + 1
split_length f [] = omega arith
split_length f (x ∷ xs) = omega (arith, parting_length (f x) x (split f xs), split_length f xs)

last_length : (ts : List (List ℕ)) → length (without_empty_last ts) ≤ length ts
last_length [] = omega arith
last_length ([] ∷ []) = omega arith
last_length ((x ∷ t) ∷ []) = omega arith
last_length (t ∷ u ∷ ts) = omega (arith, last_length (u ∷ ts))

placed_length : (at : ℕ) (ts : List (List ℕ)) → length (placed at ts) ≡ length ts
placed_length at [] = refl
placed_length at (t ∷ ts) = omega (arith, placed_length (at + length t + 1) ts)

lines_most : (xs : List ℕ) → length (lines xs) ≤ length xs + 1
lines_most xs = omega (arith, placed_length 0 (lines_of xs), last_length (split_on 10 xs), split_length (λ x. eqb x 10) xs)

-- and stored data at most as many strings as octets
first_length : (x : ℕ) (ps : List (List ℕ)) → length (cons_first x ps) ≡ length ps
first_length x [] = refl
first_length x (p ∷ ps) = refl

pieces_length : (n : ℕ) (xs : List ℕ) → (1 ≤ length (pieces_from n xs)) × (length (pieces_from n xs) ≤ length xs + 1)
pieces_length n [] = (omega arith, omega arith)
pieces_length zero (c ∷ xs) = (omega arith, omega (arith, (pieces_length c xs).1))
pieces_length (suc n) (x ∷ xs) = let (a, b) = pieces_length n xs in (omega (arith, a, first_length x (pieces_from n xs)), omega (arith, b, first_length x (pieces_from n xs)))

strings_most : (txt : List ℕ) → length (pieces txt) ≤ length txt
strings_most [] = omega arith
strings_most (c ∷ xs) = omega (arith, (pieces_length c xs).1)

-- what is cut short has a string
cut_there : (txt : List ℕ) → whole_strings txt ≡ false → 1 ≤ length (pieces txt)
unfolding taken
cut_there [] e = absurd (true≢false e)
cut_there (c ∷ xs) e = (pieces_length c xs).0

-- a row of the table, with one of these numbers
pub record Row (l : Lent) (many room : ℕ) (numbers : List ℕ) (n i : ℕ) : Type 0 where
  pub fixed : Fixed l many room n i
  pub small : i < 4294967296
  pub number : among n numbers ≡ true

wider : (n : ℕ) (xs ys : List ℕ) → all_of (λ x. among x ys) xs ≡ true → among n xs ≡ true → among n ys ≡ true
wider n [] ys a e = absurd (true≢false (sym e))
wider n (x ∷ xs) ys a e = by (λ f g. wider n xs ys f g) (eqb n x) refl (among x ys) refl a e
  where
    by : (all_of (λ z. among z ys) xs ≡ true → among n xs ≡ true → among n ys ≡ true) → (b : Bool) → eqb n x ≡ b → (d : Bool) → among x ys ≡ d → d && all_of (λ z. among z ys) xs ≡ true → b || among n xs ≡ true → among n ys ≡ true
    by ih b p false q f g = absurd (true≢false (sym f))
    by ih true p true q f g = let z = eqb-true n x p in rw z q
    by ih false p true q f g = ih f g

-- a number of one list is none of another
pub apart : (n : ℕ) (xs ys : List ℕ) → all_of (λ x. not (among x ys)) xs ≡ true → among n xs ≡ true → among n ys ≡ false
apart n [] ys a e = absurd (true≢false (sym e))
apart n (x ∷ xs) ys a e = by (λ f g. apart n xs ys f g) (eqb n x) refl (among x ys) refl a e
  where
    by : (all_of (λ z. not (among z ys)) xs ≡ true → among n xs ≡ true → among n ys ≡ false) → (b : Bool) → eqb n x ≡ b → (d : Bool) → among x ys ≡ d
        → not d && all_of (λ z. not (among z ys)) xs ≡ true → b || among n xs ≡ true → among n ys ≡ false
    by ih b p true q f g = absurd (true≢false (sym f))
    by ih true p false q f g = let z = eqb-true n x p in rw z q
    by ih false p false q f g = ih f g

pub row_wider : {l : Lent} {many room n i : ℕ} (xs ys : List ℕ) → all_of (λ x. among x ys) xs ≡ true → Row l many room xs n i → Row l many room ys n i
row_wider {n = n} xs ys a r = record { fixed = r.fixed; small = r.small; number = wider n xs ys a r.number }

-- a line's numbers are among a judge's
line_number : (l : Lent) (n : ℕ) → among n judge_numbers ≡ true → among n (judge_numbers_of l) ≡ true
line_number (as_file stanza) n e = e
line_number (as_stored edition txt) n e = wider n judge_numbers judge_stored_numbers refl e

module _ (l : Lent) (many room : ℕ) where
  -- the refusals of a line
  abbrev Faulty : Verdict → Type 0
  Faulty (faulty n) = ((i : ℕ) → IsLine l i → Fixed l many room n i) × (among n judge_numbers ≡ true)
  Faulty (goes_on p) = Unit {0}

  field_faulty : (d : Description) (f : FieldLine) (m : Meaning) → Faulty (of_meaning d f m)
  field_faulty d f unknown = (λ i h. unknown_there h, refl)
  field_faulty d f forbidden = (λ i h. not_allowed h, refl)
  field_faulty d f (means k) = by (after_tail d.fields || any_of (λ g. same_name g new) d.fields) (leb 64 (length d.fields))
    where
      new : Field
      new = record { kind = k; field_name = f.field_name; free_text = f.free_text }

      by : (a b : Bool) → Faulty (cond a (faulty 4) (cond b (faulty 5) (goes_on (after_header (record { header = d.header; fields = d.fields ++ new ∷ [] })))))
      by true b = (λ i h. not_allowed h, refl)
      by false true = (λ i h. one_more h, refl)
      by false false = tt

  bad_grammar : Faulty (faulty 2)
  bad_grammar = (λ i h. bad_line h, refl)

  content_faulty : (in_file : Bool) (p : Progress) (indented : Bool) (end : ℕ) (t : List ℕ) → Faulty (content_line in_file p indented end t)
  content_faulty in_file before_header indented end t = either Faulty indented (faulty 2) (of_header (header_line end t)) bad_grammar (by (header_line end t))
    where
      by : (h : Option Header) → Faulty (of_header h)
      by None = bad_grammar
      by (Some h) = either Faulty (in_range 1 65535 h.type_no) _ _ tt (λ i h. not_allowed h, refl)
  content_faulty in_file (after_header d) indented end t = either Faulty (as_set in_file indented) (of_field_line d (field_line end t)) (faulty 2) (by (field_line end t)) bad_grammar
    where
      by : (f : Option FieldLine) → Faulty (of_field_line d f)
      by None = bad_grammar
      by (Some f) = field_faulty d f (meaning f.keyword f.qualifiers)

  line_faulty : (in_file : Bool) (p : Progress) (q : Part) → Faulty (line_verdict in_file p q)
  line_faulty in_file p q =
      let s = span blank q.octets in
      either Faulty (ignored s.rest) (goes_on p) _ tt (content_faulty in_file p (not (null s.front)) _ s.rest)

  -- the refusals of the description
  abbrev pub Rejected : Judged → Type 0
  Rejected (rejected n i) = Row l many room (judge_numbers_of l) n i
  Rejected (described d) = Unit {0}

  none_there : Rejected (rejected 2 0)
  none_there = record { fixed = no_line; small = omega arith; number = line_number l 2 refl }

  lines_rejected : line_count l ≤ max_stanza + 1 → (in_file : Bool) (i : ℕ) (p : Progress) (ls : List Part) → 1 ≤ i → i + length ls ≡ line_count l + 1 → Rejected (judged_from in_file i p ls)
  unfolding judged_from
  lines_rejected m in_file i before_header [] h e = none_there
  lines_rejected m in_file i (after_header d) [] h e = either Rejected (null d.fields) (rejected 2 0) (described d) none_there tt
  lines_rejected m in_file i p (q ∷ ls) h e = by (line_verdict in_file p q) (line_faulty in_file p q) (λ t. lines_rejected m in_file (suc i) t ls (omega arith) (omega arith))
    where
      by : (v : Verdict) → Faulty v → ((t : Progress) → Rejected (judged_from in_file (suc i) t ls)) → Rejected (after_line v i (λ t. judged_from in_file (suc i) t ls))
      by (faulty n) f ih = record { fixed = f.0 i (h, omega arith); small = omega arith; number = line_number l n f.1 }
      by (goes_on t) f ih = ih t

  -- what stands before the lines refuses, or leaves them
  or_rejected_lem : (n i : ℕ) (b : Bool) (j : Judged) → (b ≡ false → Row l many room (judge_numbers_of l) n i) → (b ≡ true → Rejected j) → Rejected (or_rejected n i b j)
  or_rejected_lem n i true j r k = k refl
  or_rejected_lem n i false j r k = r refl

  pub too_long : Row l many room (judge_numbers_of l) 1 0
  too_long = record { fixed = over_limit; small = omega arith; number = line_number l 1 refl }

-- a file's
file_rejected : (stanza : List ℕ) (many room : ℕ) → Rejected (as_file stanza) many room (judged stanza)
unfolding judged
file_rejected stanza many room =
    or_rejected_lem (as_file stanza) many room 1 0 (leb (length stanza) max_stanza) _ (λ e. too_long (as_file stanza) many room) (λ e.
    lines_rejected (as_file stanza) many room (omega (arith, leb-true (length stanza) max_stanza e, lines_most stanza)) true 1 before_header (lines stanza) (omega arith) (omega arith))

-- a stored one's
strings_rejected : (edition : ℕ) (txt : List ℕ) (many room : ℕ) → length (pieces txt) ≤ max_stanza → (ps : List Part) → length ps ≡ length (pieces txt) → tagged ps ≡ true
    → Rejected (as_stored edition txt) many room (stored_lines 2 (drop 1 ps))
strings_rejected edition txt many room m [] q e = absurd (true≢false (sym e))
strings_rejected edition txt many room m (p ∷ ps) q e = lines_rejected (as_stored edition txt) many room (omega arith) false 2 before_header ps (omega arith) (omega arith)

stored_rejected : (edition : ℕ) (txt : List ℕ) (many room : ℕ) → Rejected (as_stored edition txt) many room (judged_stored edition txt)
unfolding judged_stored
stored_rejected edition txt many room =
    or_rejected_lem l many room 1 0 (leb (length txt) max_stanza) _ (λ e. too_long l many room) (λ s.
    or_rejected_lem l many room 16 0 (is_edition edition) _ (λ e. record { fixed = no_edition refl; small = omega arith; number = refl }) (λ _.
    or_rejected_lem l many room 8 (length (pieces txt)) (whole_strings txt) _ (λ e. record { fixed = cut_string refl (cut_there txt e, omega arith); small = omega (arith, few s); number = refl }) (λ _.
    or_rejected_lem l many room 14 1 (tagged (strings_in txt)) _ (λ e. record { fixed = bad_tag refl; small = omega arith; number = refl }) (λ e.
    strings_rejected edition txt many room (few s) (strings_in txt) (placed_length 1 (pieces txt)) e))))
  where
    l : Lent
    l = as_stored edition txt

    few : leb (length txt) max_stanza ≡ true → length (pieces txt) ≤ max_stanza
    few e = omega (arith, leb-true (length txt) max_stanza e, strings_most txt)

-- of either
pub lent_rejected : (l : Lent) (many room : ℕ) → Rejected l many room (judged_of l)
lent_rejected (as_file stanza) many room = file_rejected stanza many room
lent_rejected (as_stored edition txt) many room = stored_rejected edition txt many room

-- the refusals of a run of m fields
data FieldFault (m : ℕ) : Parts → Type 0 where
  absent : {i : ℕ} → InRun m i → FieldFault m (refused 8 i)
  wrong : {i : ℕ} → InRun m i → FieldFault m (refused 9 i)
  left : {i : ℕ} → i ≡ m + 1 → FieldFault m (refused 10 i)
  good : {ps : List (List ℕ)} → FieldFault m (parts ps)

one_further : {m : ℕ} {r : Parts} (p : List ℕ) → FieldFault m r → FieldFault (suc m) (with_first p r)
one_further p (absent {i = i} h) = absent {i = suc i} (omega (arith, h), omega (arith, h))
one_further p (wrong {i = i} h) = wrong {i = suc i} (omega (arith, h), omega (arith, h))
one_further p (left {i = i} e) = left {i = suc i} (omega (arith, e))
one_further p good = good

wire_fault : (ks : List Kind) (xs : List ℕ) → FieldFault (length ks) (parts_of ks xs)
unfolding parts_of
wire_fault [] [] = good
wire_fault [] (x ∷ xs) = left refl
wire_fault (k ∷ ks) xs = by (taken (start k) xs) (λ ys. wire_fault ks ys)
  where
    by : (t : Taken) → ((ys : List ℕ) → FieldFault (length ks) (parts_of ks ys)) → FieldFault (suc (length ks)) (after_taking t xs (λ ys. parts_of ks ys))
    by short ih = absent {i = 1} (omega arith, omega arith)
    by bad ih = wrong {i = 1} (omega arith, omega arith)
    by (took n) ih = one_further (take n xs) (ih (drop n xs))

text_fault : (f : Kind → List Token → Got) (ks : List Kind) (ts : List Token) → FieldFault (length ks) (read_run f ks ts)
unfolding read_run
text_fault f [] [] = good
text_fault f [] (t ∷ ts) = left refl
text_fault f (k ∷ ks) ts = by (f k ts) (λ us. text_fault f ks us)
  where
    by : (g : Got) → ((us : List Token) → FieldFault (length ks) (read_run f ks us)) → FieldFault (suc (length ks)) (after_reading f g (λ us. read_run f ks us))
    by no_token ih = absent {i = 1} (omega arith, omega arith)
    by bad_token ih = wrong {i = 1} (omega arith, omega arith)
    by (got p us) ih = one_further p (ih us)

-- a run that refusal 6 lets pass has as many fields as are asked for, at most 64
run_length : (l : Lent) (d : Description) → judged_of l ≡ described d → (first many : ℕ) → is_run first many (kinds d.fields) ≡ true
    → (length (run first many (kinds d.fields)) ≡ many) × (many ≤ 64)
run_length l d j first many e =
    let ks = kinds d.fields in
    let h = leb-true (first - 1 + many) (length ks) (and_right (leb 1 first) (leb (first - 1 + many) (length ks)) e) in (
      omega (arith, h, length-take many (drop (first - 1) ks), length-drop (first - 1) ks),
      omega (arith, h, kinds_length d.fields, (judges l d j).most_fields),
    )

-- the place of a bad entry: the first 512 may be good, and the 513th is bad
bad_from : (earlier : List TypeName) (names : List ℕ) (es : List Entry) (i : ℕ) → length earlier ≤ 512 → catalogued_from earlier names es ≡ bad_entry i → (1 ≤ i) × (i ≤ 513)
unfolding catalogued_from
bad_from earlier names [] i h q = let z : ◌≡◌ {A = ℕ} 0 1 = cc in absurd (omega arith)
bad_from earlier names (e ∷ es) i h q = by (ltb (length earlier) 512) refl q (λ n. bad_from (earlier ++ n ∷ []) names es i)
  where
    Later : Type 0
    Later = (n : TypeName) → length (earlier ++ n ∷ []) ≤ 512 → catalogued_from (earlier ++ n ∷ []) names es ≡ bad_entry i → (1 ≤ i) × (i ≤ 513)

    here : bad_entry (suc (length earlier)) ≡ bad_entry i → (1 ≤ i) × (i ≤ 513)
    here q = let z : suc (length earlier) ≡ i = cc in (omega arith, omega arith)

    on : length earlier < 512 → (o : Option TypeName) → after_entry o (suc (length earlier)) (λ n. catalogued_from (earlier ++ n ∷ []) names es) ≡ bad_entry i → Later → (1 ≤ i) × (i ≤ 513)
    on l None q ih = here q
    on l (Some n) q ih = ih n (omega (arith, length-append earlier (n ∷ []))) q

    by : (b : Bool) → ltb (length earlier) 512 ≡ b → after_entry (cond b (entry_after earlier names e) None) (suc (length earlier)) (λ n. catalogued_from (earlier ++ n ∷ []) names es) ≡ bad_entry i → Later
        → (1 ≤ i) × (i ≤ 513)
    by true l q ih = on (ltb-true (length earlier) 512 l) (entry_after earlier names e) q ih
    by false l q ih = here q

pub bad_place : (names : List ℕ) (es : List Entry) (i : ℕ) → catalogued names es ≡ bad_entry i → (1 ≤ i) × (i ≤ 513)
bad_place names es i q = bad_from [] names es i (omega arith) q

-- the numbers with which printing and reading refuse, want of room apart, and more
abbrev pub print_refusals : List ℕ → List ℕ
print_refusals more = 1 ∷ 2 ∷ 3 ∷ 4 ∷ 5 ∷ 6 ∷ 8 ∷ 9 ∷ 10 ∷ more

abbrev pub read_refusals : List ℕ → List ℕ
read_refusals more = 1 ∷ 2 ∷ 3 ∷ 4 ∷ 5 ∷ 6 ∷ 7 ∷ 8 ∷ 9 ∷ 10 ∷ 11 ∷ more

module _ (l : Lent) (many room : ℕ) (numbers : List ℕ) where
  abbrev pub Rows : Answer → Type 0
  Rows (done t) = Unit {0}
  Rows (refusal n i) = Row l many room numbers n i

  or_row : (n : ℕ) → Fixed l many room n 0 → among n numbers ≡ true → (b : Bool) (a : Answer) → (b ≡ true → Rows a) → Rows (or_refusal n b a)
  or_row n r m true a k = k refl
  or_row n r m false a k = record { fixed = r; small = omega arith; number = m }

  stanza_row : all_of (λ x. among x numbers) (judge_numbers_of l) ≡ true → (f : List Kind → Answer)
      → ((d : Description) → judged_of l ≡ described d → Rows (f (kinds d.fields))) → Rows (of_stanza (judged_of l) f)
  stanza_row m f k = by (judged_of l) refl (lent_rejected l many room)
    where
      by : (j : Judged) → judged_of l ≡ j → Rejected l many room j → Rows (of_stanza j f)
      by (rejected n i) e r = row_wider (judge_numbers_of l) numbers m r
      by (described d) e r = k d e

  parts_row : all_of (λ x. among x numbers) (8 ∷ 9 ∷ 10 ∷ []) ≡ true → many ≤ 64 → {r : Parts} → FieldFault many r → (f : List (List ℕ) → Answer) → ((ps : List (List ℕ)) → Rows (f ps))
      → Rows (of_parts r f)
  parts_row m q (absent h) f k = row_wider (8 ∷ 9 ∷ 10 ∷ []) numbers m (record { fixed = cut_short h; small = omega (arith, h); number = refl })
  parts_row m q (wrong h) f k = row_wider (8 ∷ 9 ∷ 10 ∷ []) numbers m (record { fixed = breaks_rule h; small = omega (arith, h); number = refl })
  parts_row m q (left e) f k = row_wider (8 ∷ 9 ∷ 10 ∷ []) numbers m (record { fixed = left_over e; small = omega (arith, e); number = refl })
  parts_row m q (good {ps = ps}) f k = k ps

  catalogue_row : (names : List ℕ) (es : List Entry) → ((i : ℕ) → catalogued names es ≡ bad_entry i → among 13 numbers ≡ true) → (f : List TypeName → Answer)
      → ((c : List TypeName) → Rows (f c)) → Rows (of_catalogue (catalogued names es) f)
  catalogue_row names es m f k = by (catalogued names es) refl
    where
      by : (r : Catalogued) → catalogued names es ≡ r → Rows (of_catalogue r f)
      by (bad_entry i) e = let (h, u) = bad_place names es i e in record { fixed = bad_entry_lem h u; small = omega arith; number = m i e }
      by (known c) e = k c

-- more of them: those of a stored description alone
abbrev pub stored_refusals : Lent → List ℕ
stored_refusals (as_file stanza) = []
stored_refusals (as_stored edition txt) = 14 ∷ 16 ∷ []

-- the judge's are among them, and 13 where the catalogue is bad
module _ (l : Lent) (first many room : ℕ) (es : List Entry) (names more : List ℕ) (m : (i : ℕ) → catalogued names es ≡ bad_entry i → among 13 more ≡ true) where
  printing_rows : all_of (λ x. among x (print_refusals more)) (judge_numbers_of l) ≡ true → (xs : List ℕ) → Rows l many room (print_refusals more) (printing_of l first many es names xs)
  unfolding printing_of
  printing_rows a xs =
      or_row l many room (print_refusals more) 1 over_limit refl (leb (length xs) max_rdata) _ (λ _.
      stanza_row l many room (print_refusals more) a _ (λ d j.
      or_row l many room (print_refusals more) 6 no_run refl (is_run first many (kinds d.fields)) _ (λ e.
      catalogue_row l many room (print_refusals more) names es m _ (λ c.
      let h = run_length l d j first many e in
      parts_row l many room (print_refusals more) refl h.1 (rw h.0 at (wire_fault (run first many (kinds d.fields)) xs)) _ (λ ps. tt)))))

  reading_rows : all_of (λ x. among x (read_refusals more)) (judge_numbers_of l) ≡ true → (origin text : List ℕ) → Rows l many room (read_refusals more) (reading_of l first many es names origin text)
  unfolding reading_of
  reading_rows a origin text =
      or_row l many room (read_refusals more) 1 over_limit refl (leb (length text) max_text) _ (λ _.
      stanza_row l many room (read_refusals more) a _ (λ d j.
      or_row l many room (read_refusals more) 6 no_run refl (is_run first many (kinds d.fields)) _ (λ e.
      or_row l many room (read_refusals more) 7 no_origin refl (is_wire_name origin) _ (λ _.
      catalogue_row l many room (read_refusals more) names es m _ (λ c.
      let h = run_length l d j first many e in
      parts_row l many room (read_refusals more) refl h.1 (rw h.0 at (text_fault (λ k ts. read_field c k origin ts) (run first many (kinds d.fields)) (tokens text))) _ (λ ps.
      or_row l many room (read_refusals more) 11 over_rdata refl (leb (length (flat ps)) max_rdata) (done (flat ps)) (λ _. tt)))))))

-- with any catalogue
pub print_rows : (l : Lent) (first many room : ℕ) (es : List Entry) (names xs : List ℕ) → Rows l many room (print_refusals (13 ∷ stored_refusals l)) (printing_of l first many es names xs)
print_rows l first many room es names xs = printing_rows l first many room es names (13 ∷ stored_refusals l) (λ i e. refl) (by l) xs
  where
    by : (l : Lent) → all_of (λ x. among x (print_refusals (13 ∷ stored_refusals l))) (judge_numbers_of l) ≡ true
    by (as_file stanza) = refl
    by (as_stored edition txt) = refl

pub read_rows : (l : Lent) (first many room : ℕ) (es : List Entry) (names origin text : List ℕ) → Rows l many room (read_refusals (13 ∷ stored_refusals l)) (reading_of l first many es names origin text)
read_rows l first many room es names origin text = reading_rows l first many room es names (13 ∷ stored_refusals l) (λ i e. refl) (by l) origin text
  where
    by : (l : Lent) → all_of (λ x. among x (read_refusals (13 ∷ stored_refusals l))) (judge_numbers_of l) ≡ true
    by (as_file stanza) = refl
    by (as_stored edition txt) = refl

-- with an empty one: never 13
none_bad : (names : List ℕ) (i : ℕ) → catalogued names [] ≡ bad_entry i → ⊥
unfolding catalogued_from
none_bad names i e = let z : ◌≡◌ {A = ℕ} 0 1 = cc in absurd (omega arith)

pub print_rows_old : (l : Lent) (first many room : ℕ) (names xs : List ℕ) → Rows l many room (print_refusals (stored_refusals l)) (printing_of l first many [] names xs)
print_rows_old l first many room names xs = printing_rows l first many room [] names (stored_refusals l) (λ i e. absurd (none_bad names i e)) (by l) xs
  where
    by : (l : Lent) → all_of (λ x. among x (print_refusals (stored_refusals l))) (judge_numbers_of l) ≡ true
    by (as_file stanza) = refl
    by (as_stored edition txt) = refl

pub read_rows_old : (l : Lent) (first many room : ℕ) (names origin text : List ℕ) → Rows l many room (read_refusals (stored_refusals l)) (reading_of l first many [] names origin text)
read_rows_old l first many room names origin text = reading_rows l first many room [] names (stored_refusals l) (λ i e. absurd (none_bad names i e)) (by l) origin text
  where
    by : (l : Lent) → all_of (λ x. among x (read_refusals (stored_refusals l))) (judge_numbers_of l) ≡ true
    by (as_file stanza) = refl
    by (as_stored edition txt) = refl

-- no refusal has the number 0
pub not_zero : {l : Lent} {many room n i : ℕ} → Fixed l many room n i → eqb n 0 ≡ false
not_zero over_limit = refl
not_zero (bad_line h) = refl
not_zero no_line = refl
not_zero (unknown_there h) = refl
not_zero (not_allowed h) = refl
not_zero (one_more h) = refl
not_zero no_run = refl
not_zero no_origin = refl
not_zero (cut_short h) = refl
not_zero (breaks_rule h) = refl
not_zero (left_over e) = refl
not_zero over_rdata = refl
not_zero (no_room h) = refl
not_zero (bad_entry_lem h u) = refl
not_zero (cut_string e h) = refl
not_zero (bad_tag e) = refl
not_zero (no_edition e) = refl
