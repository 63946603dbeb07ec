-- Document 02, 4: stored lines and the lines of their file form give the same description but for places.
use Prim.Native.Nat.{ℕ, zero, suc, ◌+◌, ◌-◌, ◌^◌, ◌≤◌, ◌<◌}
use mathlib.Core.Path.{◌≡◌, refl, sym, ap, ap₂, ◌∙◌, subst}
use mathlib.Core.Bool.{Bool, true, false, not, cond, ◌&&◌, ◌||◌, true≢false}
use mathlib.Core.List.{List, [], ◌∷◌, ◌++◌, map, append_assoc}
use Rattle.std.specs.Prelude.{Option, None, Some}
use native.Mathlib.Omega.{arith}
use lib.ListN.{length, take, drop, length-map}
use lib.Dec.{leb, ltb, eqb}
use borrow.Author.Tests.{le-leb, eq-eqb, eqb-true}
use Rattle.format.specs.Lists.{◌>>=◌, provided, cons_both, each_of, null, any_of, all_of, twice, flat, flat_map, cons_first, Spanned, spanning, span}
use Rattle.format.specs.Octets.{Octets, ascii, in_range, among, blank, digit, alphanumeric, same_octets, split_on}
use Rattle.format.specs.Wire.{Taken, short, bad, took, taken, string_count, string_octet}
use Rattle.format.specs.Field.{Part, Symbol, Kind, int, rrtype, bitmap, a4, aa, aaaa, name, str, strs, raw, b32, b64, hex, hexc, eui, time, start, tail, Field, kinds}
use Rattle.format.specs.Digits.{number}
use Rattle.format.specs.Number.{decimal_of, symbol_or_decimal, symbol_value, read_integer}
use Rattle.format.specs.Token.{Token, bare, quoted, broken, tokens}
use Rattle.format.specs.Text.{pieces_from, pieces, with_count}
use Rattle.format.specs.Name.{is_wire_name}
use Rattle.format.specs.Lines.{placed, without_empty_last, lines_of, lines}
use Rattle.format.specs.Grammar.{part_at, name_at, after, free_text_at, Header, Numbered, if_decimal, after_options, header_line, Qualifier, word, symbol, if_qualifier, qualifier, Qualified, not_bracket, if_qualifiers, qualifiers_at, field_name_at, FieldLine, if_type, field_line}
use Rattle.format.specs.Types.{Takes, symbols, words, TypeRow, has_word, string_kind, type_rows, takes_of, unknown_word, symbol_of, word_of, same_symbol, allowed, Meaning, unknown, forbidden, means, or_forbidden, meaning_of, meaning}
use Rattle.format.specs.Catalogue.{Entry, TypeName, Catalogued, bad_entry, known, catalogued}
use Rattle.format.specs.Judge.{Description, Progress, before_header, after_header, Verdict, faulty, goes_on, after_tail, same_name, with_field, of_meaning, of_field_line, of_header, as_set, ignored, line_verdict, Judged, rejected, described, at_end, after_line, judged_from, max_stanza, judged}
use Rattle.format.specs.Run.{shown, Got, no_token, bad_token, got, one_bare, read_field, Parts, refused, parts, after_taking, parts_of, max_rdata, text_of_parts, after_reading, read_run}
use Rattle.format.specs.Entries.{Answer, done, max_text, or_refusal, of_parts, of_catalogue, is_run, run, printing_under, reading_under}
use Rattle.format.specs.Job.{ended}
use Rattle.format.specs.Stored.{tag, stored_lines, judged_stored}
use Rattle.format.specs.TwoForms.{unplaced, unplaced_symbol, unplaced_kind, unplaced_field, unplaced_header, unplaced_description, without_places, numbers_on, starts_blank, storable, file_lines, file_of, txt_of, SameForms, SharedLines, StoredForm, BlankStart, StringsStand, unindented, NoStoredForm, strings_of, StoredOfFile}
use Rattle.format.proofs.Lists.{and_left, and_right, or_left, or_right, not_true}
use Rattle.format.proofs.Field.{Free, split_more}
use Rattle.format.proofs.Text.{all_pieces, takes_piece}

-- 1. Kinds without places convert alike.
symbol_shown : (l : List Symbol) (n : ℕ) → symbol_or_decimal (map unplaced_symbol l) n ≡ symbol_or_decimal l n
symbol_shown [] n = refl
symbol_shown (s ∷ l) n = rw (symbol_shown l n)

symbol_read : (l : List Symbol) (t : List ℕ) → symbol_value (map unplaced_symbol l) t ≡ symbol_value l t
symbol_read [] t = refl
symbol_read (s ∷ l) t = rw (symbol_read l t)

-- only an integer's symbols have places: whatever holds of integers, and of kinds that are what they are without places, holds of all
each_kind : (P : Kind → Kind → Type 0) → ((w : ℕ) (l : List Symbol) → P (int w (map unplaced_symbol l)) (int w l)) → ((k : Kind) → P k k) → (k : Kind) → P (unplaced_kind k) k
each_kind P i h (int w l) = i w l
each_kind P i h rrtype = h rrtype
each_kind P i h bitmap = h bitmap
each_kind P i h a4 = h a4
each_kind P i h aa = h aa
each_kind P i h aaaa = h aaaa
each_kind P i h (name m) = h (name m)
each_kind P i h str = h str
each_kind P i h strs = h strs
each_kind P i h raw = h raw
each_kind P i h b32 = h b32
each_kind P i h b64 = h b64
each_kind P i h hex = h hex
each_kind P i h hexc = h hexc
each_kind P i h (eui w) = h (eui w)
each_kind P i h time = h time

shown_same : (c : List TypeName) (k : Kind) (p : List ℕ) → shown c (unplaced_kind k) p ≡ shown c k p
unfolding shown
shown_same c k p = each_kind (λ j k. shown c j p ≡ shown c k p) (λ w l. symbol_shown l (number 256 p)) (λ k. refl) k

integer_same : (w : ℕ) (l : List Symbol) (ts : List Token) → one_bare (read_integer w (map unplaced_symbol l)) ts ≡ one_bare (read_integer w l) ts
integer_same w l [] = refl
integer_same w l (bare t ∷ ts) = rw (symbol_read l t)
integer_same w l (quoted t ∷ ts) = refl
integer_same w l (broken ∷ ts) = refl

read_same : (c : List TypeName) (k : Kind) (o : List ℕ) (ts : List Token) → read_field c (unplaced_kind k) o ts ≡ read_field c k o ts
unfolding read_field
read_same c k o ts = each_kind (λ j k. read_field c j o ts ≡ read_field c k o ts) (λ w l. integer_same w l ts) (λ k. refl) k

start_same : (k : Kind) → start (unplaced_kind k) ≡ start k
start_same k = each_kind (λ j k. start j ≡ start k) (λ w l. refl) (λ k. refl) k

tail_same : (k : Kind) → tail (unplaced_kind k) ≡ tail k
tail_same k = each_kind (λ j k. tail j ≡ tail k) (λ w l. refl) (λ k. refl) k

parts_same : (ks : List Kind) (xs : List ℕ) → parts_of (map unplaced_kind ks) xs ≡ parts_of ks xs
unfolding parts_of
parts_same [] [] = refl
parts_same [] (x ∷ xs) = refl
parts_same (k ∷ ks) xs = rw (start_same k) (by (taken (start k) xs) (λ ys. parts_same ks ys))
  where
    by : (t : Taken) → ((ys : List ℕ) → parts_of (map unplaced_kind ks) ys ≡ parts_of ks ys) → after_taking t xs (λ ys. parts_of (map unplaced_kind ks) ys) ≡ after_taking t xs (λ ys. parts_of ks ys)
    by short ih = refl
    by bad ih = refl
    by (took n) ih = rw (ih (drop n xs))

text_same : (c : List TypeName) (ks : List Kind) (ps : List (List ℕ)) → text_of_parts (shown c) (map unplaced_kind ks) ps ≡ text_of_parts (shown c) ks ps
unfolding text_of_parts
text_same c [] ps = refl
text_same c (k ∷ ks) [] = refl
text_same c (k ∷ ks) (p ∷ ps) = rw (shown_same c k p, text_same c ks ps)

reads_same : (c : List TypeName) (o : List ℕ) (ks : List Kind) (ts : List Token) → read_run (λ k ts. read_field c k o ts) (map unplaced_kind ks) ts ≡ read_run (λ k ts. read_field c k o ts) ks ts
unfolding read_run
reads_same c o [] [] = refl
reads_same c o [] (t ∷ ts) = refl
reads_same c o (k ∷ ks) ts = rw (read_same c k o ts) (by (read_field c k o ts) (λ us. reads_same c o ks us))
  where
    by : (g : Got) → ((us : List Token) → read_run (λ k ts. read_field c k o ts) (map unplaced_kind ks) us ≡ read_run (λ k ts. read_field c k o ts) ks us)
        → after_reading (λ k ts. read_field c k o ts) g (λ us. read_run (λ k ts. read_field c k o ts) (map unplaced_kind ks) us) ≡ after_reading (λ k ts. read_field c k o ts) g (λ us. read_run (λ k ts. read_field c k o ts) ks us)
    by no_token ih = refl
    by bad_token ih = refl
    by (got p us) ih = rw (ih us)

kinds_map : (fs : List Field) → kinds (map unplaced_field fs) ≡ map unplaced_kind (kinds fs)
kinds_map [] = refl
kinds_map (f ∷ fs) = rw (kinds_map fs)

take_map : {A B : Type 0} (f : A → B) (n : ℕ) (xs : List A) → take n (map f xs) ≡ map f (take n xs)
take_map f zero xs = refl
take_map f (suc n) [] = refl
take_map f (suc n) (x ∷ xs) = rw (take_map f n xs)

drop_map : {A B : Type 0} (f : A → B) (n : ℕ) (xs : List A) → drop n (map f xs) ≡ map f (drop n xs)
drop_map f zero xs = refl
drop_map f (suc n) [] = refl
drop_map f (suc n) (x ∷ xs) = drop_map f n xs

run_map : (first len : ℕ) (ks : List Kind) → run first len (map unplaced_kind ks) ≡ map unplaced_kind (run first len ks)
run_map first len ks = rw (drop_map unplaced_kind (first - 1) ks, take_map unplaced_kind len (drop (first - 1) ks))

print_same : (j : Judged) (first len : ℕ) (es : List Entry) (names rdata : List ℕ) → printing_under (without_places j) first len es names rdata ≡ printing_under j first len es names rdata
print_same (rejected n i) first len es names rdata = refl
print_same (described d) first len es names rdata =
    rw (kinds_map d.fields, length-map (kinds d.fields) unplaced_kind, run_map first len (kinds d.fields), parts_same (run first len (kinds d.fields)) rdata)
    (ap (λ a. or_refusal 1 (leb (length rdata) max_rdata) (or_refusal 6 (is_run first len (kinds d.fields)) a)) (with_names (catalogued names es) (run first len (kinds d.fields)) (parts_of (run first len (kinds d.fields)) rdata)))
  where
    by : (c : List TypeName) (ks : List Kind) (r : Parts) → of_parts r (λ ps. done (text_of_parts (shown c) (map unplaced_kind ks) ps)) ≡ of_parts r (λ ps. done (text_of_parts (shown c) ks ps))
    by c ks (refused n i) = refl
    by c ks (parts ps) = rw (text_same c ks ps)

    with_names : (g : Catalogued) (ks : List Kind) (r : Parts) → of_catalogue g (λ c. of_parts r (λ ps. done (text_of_parts (shown c) (map unplaced_kind ks) ps))) ≡ of_catalogue g (λ c. of_parts r (λ ps. done (text_of_parts (shown c) ks ps)))
    with_names (bad_entry i) ks r = refl
    with_names (known c) ks r = by c ks r

-- what is done with the parts that are read
abbrev read_parts : Parts → Answer
read_parts r = of_parts r (λ ps. or_refusal 11 (leb (length (flat ps)) max_rdata) (done (flat ps)))

read_under_same : (j : Judged) (first len : ℕ) (es : List Entry) (names o t : List ℕ) → reading_under (without_places j) first len es names o t ≡ reading_under j first len es names o t
read_under_same (rejected n i) first len es names o t = refl
read_under_same (described d) first len es names o t =
    rw (kinds_map d.fields, length-map (kinds d.fields) unplaced_kind, run_map first len (kinds d.fields))
    (ap (λ a. or_refusal 1 (leb (length t) max_text) (or_refusal 6 (is_run first len (kinds d.fields)) (or_refusal 7 (is_wire_name o) a))) (with_names (catalogued names es) (run first len (kinds d.fields))))
  where
    with_names : (g : Catalogued) (ks : List Kind) → of_catalogue g (λ c. read_parts (read_run (λ k ts. read_field c k o ts) (map unplaced_kind ks) (tokens t))) ≡ of_catalogue g (λ c. read_parts (read_run (λ k ts. read_field c k o ts) ks (tokens t)))
    with_names (bad_entry i) ks = refl
    with_names (known c) ks = rw (reads_same c o ks (tokens t))

-- 2. The grammar does not look at places.
data Alike {A : Type 0} (e : A → A) : Option A → Option A → Type 0 where
  neither : Alike e None None
  both : (x y : A) → e x ≡ e y → Alike e (Some x) (Some y)

abbrev unplaced_qualifier : Qualifier → Qualifier
unplaced_qualifier (word w) = word w
unplaced_qualifier (symbol s) = symbol (unplaced_symbol s)

abbrev unplaced_qualified : Qualified → Qualified
unplaced_qualified q = record { qualifiers = map unplaced_qualifier q.qualifiers; rest = q.rest }

abbrev unplaced_line : FieldLine → FieldLine
unplaced_line l = record { keyword = l.keyword; qualifiers = map unplaced_qualifier l.qualifiers; field_name = unplaced l.field_name; free_text = unplaced l.free_text }

-- what is read next, the same in both or alike in both
then_same : {A B : Type 0} (e : B → B) (o : Option A) (f g : A → Option B) → ((x : A) → Alike e (f x) (g x)) → Alike e (o >>= f) (o >>= g)
then_same e None f g h = neither
then_same e (Some x) f g h = h x

then_alike : {A B : Type 0} (d : A → A) (e : B → B) (o p : Option A) (f g : A → Option B) → Alike d o p → ((x y : A) → d x ≡ d y → Alike e (f x) (g y)) → Alike e (o >>= f) (p >>= g)
then_alike d e o p f g neither h = neither
then_alike d e o p f g (both x y q) h = h x y q

either_alike : {A : Type 0} (e : A → A) (b : Bool) (o p u v : Option A) → Alike e o u → Alike e p v → Alike e (cond b o p) (cond b u v)
either_alike e true o p u v h k = h
either_alike e false o p u v h k = k

qualifier_alike : (a b : ℕ) (t : List ℕ) → Alike unplaced_qualifier (qualifier (record { place = a; octets = t })) (qualifier (record { place = b; octets = t }))
qualifier_alike a b t =
    then_same unplaced_qualifier (name_at t) (if_qualifier a) (if_qualifier b) (λ s.
    either_alike unplaced_qualifier (null s.rest) _ _ _ _ (both _ _ refl) (
    then_same unplaced_qualifier (after 61 s.rest) _ _ (λ ds.
    then_same unplaced_qualifier (decimal_of ds) _ _ (λ n. both _ _ refl))))

cons_alike : (o p : Option Qualifier) (us vs : Option (List Qualifier)) → Alike unplaced_qualifier o p → Alike (map unplaced_qualifier) us vs → Alike (map unplaced_qualifier) (cons_both o us) (cons_both p vs)
cons_alike o p us vs neither k = neither
cons_alike o p us vs (both x y h) neither = neither
cons_alike o p us vs (both x y h) (both xs ys k) = both (x ∷ xs) (y ∷ ys) (rw (h, k))

qualifiers_alike : (a b : ℕ) (ts : List (List ℕ)) → Alike (map unplaced_qualifier) (each_of qualifier (placed a ts)) (each_of qualifier (placed b ts))
qualifiers_alike a b [] = both [] [] refl
qualifiers_alike a b (t ∷ ts) = cons_alike _ _ _ _ (qualifier_alike a b t) (qualifiers_alike (a + length t + 1) (b + length t + 1) ts)

abbrev qualified_by_lem : List ℕ → List Qualifier → Qualified
qualified_by_lem u qs = record { qualifiers = qs; rest = u }

abbrev line_by : List ℕ → List ℕ → List Qualifier → Part → FieldLine
line_by k n qs t = record { keyword = k; qualifiers = qs; field_name = record { place = 0; octets = n }; free_text = t }

abbrev header_by : List ℕ → ℕ → Part → Header
header_by m n t = record { type_name = record { place = 0; octets = m }; type_no = n; header_text = t }

qualified_alike : (a b : ℕ) (t : List ℕ) → Alike unplaced_qualified (qualifiers_at a t) (qualifiers_at b t)
qualified_alike a b [] = both _ _ refl
qualified_alike a b (x ∷ t) =
    either_alike unplaced_qualified (eqb x 91) _ _ _ _ (
    then_alike (map unplaced_qualifier) unplaced_qualified _ _ _ _ (qualifiers_alike (a - length t) (b - length t) (split_on 44 (span not_bracket t).front)) (λ p q h.
    then_same unplaced_qualified (after 93 (span not_bracket t).rest) _ _ (λ u. both _ _ (ap (qualified_by_lem u) h)))) (both _ _ refl)

text_alike : (a b : ℕ) (t : List ℕ) → Alike unplaced (free_text_at a t) (free_text_at b t)
text_alike a b [] = both _ _ refl
text_alike a b (x ∷ t) = by (blank x && all_of (in_range 0x20 0xFE) t)
  where
    by : (c : Bool) → Alike unplaced (provided c (part_at a t t)) (provided c (part_at b t t))
    by true = both _ _ refl
    by false = neither

field_alike : (a b : ℕ) (t : List ℕ) → Alike unplaced_line (field_line a t) (field_line b t)
field_alike a b t =
    then_same unplaced_line (if_type (span alphanumeric t)) _ _ (λ k.
    then_alike unplaced_qualified unplaced_line _ _ _ _ (qualified_alike a b k.rest) (λ q r h.
    rw (ap (λ (w : Qualified). w.rest) h) (
    then_same unplaced_line (field_name_at r.rest) _ _ (λ n.
    then_alike unplaced unplaced_line _ _ _ _ (text_alike a b n.rest) (λ u v e.
    both _ _ (ap₂ (line_by k.front n.front) (ap (λ (w : Qualified). w.qualifiers) h) e))))))

header_alike : (a b : ℕ) (t : List ℕ) → Alike unplaced_header (header_line a t) (header_line b t)
header_alike a b t =
    then_same unplaced_header (name_at t) _ _ (λ m.
    then_same unplaced_header (after 58 m.rest) _ _ (λ u.
    then_same unplaced_header (if_decimal (span digit u)) _ _ (λ n.
    then_same unplaced_header (after_options n.rest) _ _ (λ r.
    then_alike unplaced unplaced_header _ _ _ _ (text_alike a b r) (λ x y e.
    both _ _ (ap (header_by m.front n.value) e))))))

-- 3. What a type and its qualifiers mean, without places.
abbrev unplaced_meaning : Meaning → Meaning
unplaced_meaning unknown = unknown
unplaced_meaning forbidden = forbidden
unplaced_meaning (means k) = means (unplaced_kind k)

abbrev unplaced_option : Option Kind → Option Kind
unplaced_option None = None
unplaced_option (Some k) = Some (unplaced_kind k)

abbrev Fixed-row : Takes → Type 0
Fixed-row (symbols w) = Unit {0}
Fixed-row (words ws f) = (given : List (List ℕ)) → unplaced_option (f given) ≡ f given

abbrev Fixed-rows : List TypeRow → Type 0
Fixed-rows [] = Unit {0}
Fixed-rows (r ∷ rs) = Fixed-row r.takes × Fixed-rows rs

either_fixed : (i j : Kind) → unplaced_kind i ≡ i → unplaced_kind j ≡ j → (b : Bool) → unplaced_kind (cond b i j) ≡ cond b i j
either_fixed i j h k true = h
either_fixed i j h k false = k

strings_fixed : (given : List (List ℕ)) → unplaced_option (string_kind given) ≡ string_kind given
strings_fixed given = by (has_word given (ascii "M")) (has_word given (ascii "X"))
  where
    by : (m x : Bool) → unplaced_option (cond m (provided (not x) strs) (Some (cond x raw str))) ≡ cond m (provided (not x) strs) (Some (cond x raw str))
    by true true = refl
    by true false = refl
    by false true = refl
    by false false = refl

rows_fixed : Fixed-rows type_rows
rows_fixed = (tt, (tt, (tt, (λ g. ap Some (either_fixed rrtype bitmap refl refl (null g)), (λ g. refl, (λ g. refl, (λ g. refl, (λ g. refl, (strings_fixed, (λ g. refl, (λ g. refl, (λ g. ap Some (either_fixed hex hexc refl refl (null g)), (λ g. refl, (λ g. refl, (λ g. refl, (λ g. refl, (λ g. refl, tt)))))))))))))))))

row_of : (rs : List TypeRow) → Fixed-rows rs → (k : List ℕ) (t : Takes) → takes_of rs k ≡ Some t → Fixed-row t
row_of [] h k t e = let z : ◌≡◌ {A = ℕ} 0 1 = cc in absurd (omega arith)
row_of (r ∷ rs) h k t e = by (same_octets k r.type_word) e (row_of rs h.1 k t)
  where
    by : (b : Bool) → cond b (Some r.takes) (takes_of rs k) ≡ Some t → (takes_of rs k ≡ Some t → Fixed-row t) → Fixed-row t
    by true e ih = let w : r.takes ≡ t = cc in subst Fixed-row w h.0
    by false e ih = ih e

unknown_same : (qs : List Qualifier) → any_of unknown_word (map unplaced_qualifier qs) ≡ any_of unknown_word qs
unknown_same [] = refl
unknown_same (word w ∷ qs) = rw (unknown_same qs)
unknown_same (symbol s ∷ qs) = rw (unknown_same qs)

words_same : (qs : List Qualifier) → each_of word_of (map unplaced_qualifier qs) ≡ each_of word_of qs
words_same [] = refl
words_same (word w ∷ qs) = rw (words_same qs)
words_same (symbol s ∷ qs) = refl

abbrev unplaced_symbols : Option (List Symbol) → Option (List Symbol)
unplaced_symbols None = None
unplaced_symbols (Some l) = Some (map unplaced_symbol l)

symbols_same : (w : ℕ) (qs : List Qualifier) → each_of (symbol_of w) (map unplaced_qualifier qs) ≡ unplaced_symbols (each_of (symbol_of w) qs)
symbols_same w [] = refl
symbols_same w (word t ∷ qs) = refl
symbols_same w (symbol s ∷ qs) = rw (symbols_same w qs) (by (ltb s.value (256 ^ w)) (each_of (symbol_of w) qs))
  where
    by : (b : Bool) (o : Option (List Symbol)) → cons_both (provided b (unplaced_symbol s)) (unplaced_symbols o) ≡ unplaced_symbols (cons_both (provided b s) o)
    by true None = refl
    by true (Some l) = refl
    by false o = refl

any_symbol : (s : Symbol) (l : List Symbol) → any_of (same_symbol (unplaced_symbol s)) (map unplaced_symbol l) ≡ any_of (same_symbol s) l
any_symbol s [] = refl
any_symbol s (t ∷ l) = rw (any_symbol s l)

twice_symbol : (l : List Symbol) → twice same_symbol (map unplaced_symbol l) ≡ twice same_symbol l
twice_symbol [] = refl
twice_symbol (s ∷ l) = rw (any_symbol s l, twice_symbol l)

allowed_same : (t : Takes) → Fixed-row t → (qs : List Qualifier) → allowed t (map unplaced_qualifier qs) ≡ unplaced_option (allowed t qs)
allowed_same (symbols w) h qs = rw (symbols_same w qs) (by (each_of (symbol_of w) qs))
  where
    on : (b : Bool) (l : List Symbol) → provided b (int w (map unplaced_symbol l)) ≡ unplaced_option (provided b (int w l))
    on true l = refl
    on false l = refl

    by : (o : Option (List Symbol)) → (unplaced_symbols o >>= λ l. provided (not (twice same_symbol l)) (int w l)) ≡ unplaced_option (o >>= λ l. provided (not (twice same_symbol l)) (int w l))
    by None = refl
    by (Some l) = rw (twice_symbol l) (on (not (twice same_symbol l)) l)
allowed_same (words ws f) h qs = rw (words_same qs) (by (each_of word_of qs))
  where
    on : (b : Bool) (g : List (List ℕ)) → cond b (f g) None ≡ unplaced_option (cond b (f g) None)
    on true g = sym (h g)
    on false g = refl

    by : (o : Option (List (List ℕ))) → (o >>= λ given. cond (all_of (has_word ws) given && not (twice same_octets given)) (f given) None) ≡ unplaced_option (o >>= λ given. cond (all_of (has_word ws) given && not (twice same_octets given)) (f given) None)
    by None = refl
    by (Some g) = on (all_of (has_word ws) g && not (twice same_octets g)) g

meaning_same : (k : List ℕ) (qs : List Qualifier) → meaning k (map unplaced_qualifier qs) ≡ unplaced_meaning (meaning k qs)
meaning_same k qs = by (takes_of type_rows k) refl
  where
    or_same : (o : Option Kind) → or_forbidden (unplaced_option o) ≡ unplaced_meaning (or_forbidden o)
    or_same None = refl
    or_same (Some j) = refl

    on : (b : Bool) (o : Option Kind) → cond b unknown (or_forbidden (unplaced_option o)) ≡ unplaced_meaning (cond b unknown (or_forbidden o))
    on true o = refl
    on false o = or_same o

    by : (o : Option Takes) → takes_of type_rows k ≡ o → meaning_of o (map unplaced_qualifier qs) ≡ unplaced_meaning (meaning_of o qs)
    by None e = refl
    by (Some t) e = rw (unknown_same qs, allowed_same t (row_of type_rows rows_fixed k t e) qs) (on (any_of unknown_word qs) (allowed t qs))

-- 4. What a line does, without places.
abbrev unplaced_progress : Progress → Progress
unplaced_progress before_header = before_header
unplaced_progress (after_header d) = after_header (unplaced_description d)

abbrev unplaced_verdict : Verdict → Verdict
unplaced_verdict (faulty n) = faulty n
unplaced_verdict (goes_on p) = goes_on (unplaced_progress p)

tails_same : (fs : List Field) → after_tail (map unplaced_field fs) ≡ after_tail fs
tails_same [] = refl
tails_same (f ∷ fs) = rw (tail_same f.kind, tails_same fs)

names_same : (f : Field) (fs : List Field) → any_of (λ g. same_name g (unplaced_field f)) (map unplaced_field fs) ≡ any_of (λ g. same_name g f) fs
names_same f [] = refl
names_same f (g ∷ fs) = rw (names_same f fs)

map_snoc : (fs : List Field) (f : Field) → map unplaced_field (fs ++ f ∷ []) ≡ map unplaced_field fs ++ unplaced_field f ∷ []
map_snoc [] f = refl
map_snoc (g ∷ fs) f = rw (map_snoc fs f)

with_same : (d : Description) (f : Field) → with_field (unplaced_description d) (unplaced_field f) ≡ unplaced_verdict (with_field d f)
with_same d f = rw (tails_same d.fields, names_same f d.fields, length-map d.fields unplaced_field, ← (map_snoc d.fields f)) (by (after_tail d.fields || any_of (λ g. same_name g f) d.fields) (leb 64 (length d.fields)))
  where
    by : (a b : Bool) → cond a (faulty 4) (cond b (faulty 5) (goes_on (after_header (record { header = unplaced_header d.header; fields = map unplaced_field (d.fields ++ f ∷ []) }))))
        ≡ unplaced_verdict (cond a (faulty 4) (cond b (faulty 5) (goes_on (after_header (record { header = d.header; fields = d.fields ++ f ∷ [] })))))
    by true b = refl
    by false true = refl
    by false false = refl

meant_same : (d : Description) (l : FieldLine) (m : Meaning) → of_meaning (unplaced_description d) (unplaced_line l) (unplaced_meaning m) ≡ unplaced_verdict (of_meaning d l m)
meant_same d l unknown = refl
meant_same d l forbidden = refl
meant_same d l (means k) = with_same d (record { kind = k; field_name = l.field_name; free_text = l.free_text })

line_same : (d : Description) (l : FieldLine) → of_field_line (unplaced_description d) (Some (unplaced_line l)) ≡ unplaced_verdict (of_field_line d (Some l))
line_same d l = rw (meaning_same l.keyword l.qualifiers) (meant_same d l (meaning l.keyword l.qualifiers))

field_verdicts : (d e : Description) → unplaced_description d ≡ unplaced_description e → (o p : Option FieldLine) → Alike unplaced_line o p → unplaced_verdict (of_field_line d o) ≡ unplaced_verdict (of_field_line e p)
field_verdicts d e h o p neither = refl
field_verdicts d e h o p (both x y k) = sym (line_same d x) ∙ ap₂ (λ c l. of_field_line c (Some l)) h k ∙ line_same e y

header_same : (h : Header) → of_header (Some (unplaced_header h)) ≡ unplaced_verdict (of_header (Some h))
header_same h = by (in_range 1 65535 h.type_no)
  where
    by : (b : Bool) → cond b (goes_on (after_header (record { header = unplaced_header h; fields = [] }))) (faulty 4) ≡ unplaced_verdict (cond b (goes_on (after_header (record { header = h; fields = [] }))) (faulty 4))
    by true = refl
    by false = refl

header_verdicts : (o p : Option Header) → Alike unplaced_header o p → unplaced_verdict (of_header o) ≡ unplaced_verdict (of_header p)
header_verdicts o p neither = refl
header_verdicts o p (both x y k) = sym (header_same x) ∙ ap (λ h. of_header (Some h)) k ∙ header_same y

no_blank : (l : List ℕ) → starts_blank l ≡ false → span blank l ≡ record { front = []; rest = l }
no_blank [] h = refl
no_blank (x ∷ t) h = rw h

after_verdicts : (d e : Description) → unplaced_description d ≡ unplaced_description e → (a b : ℕ) (l : List ℕ) → starts_blank l ≡ false
    → unplaced_verdict (line_verdict true (after_header d) (record { place = a; octets = 32 ∷ l })) ≡ unplaced_verdict (line_verdict false (after_header e) (record { place = b; octets = l }))
after_verdicts d e h a b l n = rw (no_blank l n) (by (ignored l))
  where
    by : (c : Bool) → unplaced_verdict (cond c (goes_on (after_header d)) (of_field_line d (field_line (a + length (32 ∷ l)) l))) ≡ unplaced_verdict (cond c (goes_on (after_header e)) (of_field_line e (field_line (b + length l) l)))
    by true = ap (λ c. goes_on (after_header c)) h
    by false = field_verdicts d e h _ _ (field_alike (a + length (32 ∷ l)) (b + length l) l)

before_verdicts : (a b : ℕ) (l : List ℕ) → starts_blank l ≡ false → ignored l ≡ false
    → unplaced_verdict (line_verdict true before_header (record { place = a; octets = l })) ≡ unplaced_verdict (line_verdict false before_header (record { place = b; octets = l }))
before_verdicts a b l n i = rw (no_blank l n, i) (header_verdicts _ _ (header_alike (a + length l) (b + length l) l))

-- a header's line goes on after the header, and a field's too
abbrev Goes : Verdict → Type 0
Goes (faulty n) = Unit {0}
Goes (goes_on before_header) = ⊥
Goes (goes_on (after_header d)) = Unit {0}

header_goes : (o : Option Header) → Goes (of_header o)
header_goes None = tt
header_goes (Some h) = by (in_range 1 65535 h.type_no)
  where
    by : (b : Bool) → Goes (cond b (goes_on (after_header (record { header = h; fields = [] }))) (faulty 4))
    by true = tt
    by false = tt

field_goes : (d : Description) (o : Option FieldLine) → Goes (of_field_line d o)
field_goes d None = tt
field_goes d (Some l) = by (meaning l.keyword l.qualifiers)
  where
    on : (k : Kind) (a b : Bool) → Goes (cond a (faulty 4) (cond b (faulty 5) (goes_on (after_header (record { header = d.header; fields = d.fields ++ (record { kind = k; field_name = l.field_name; free_text = l.free_text }) ∷ [] })))))
    on k true b = tt
    on k false true = tt
    on k false false = tt

    by : (m : Meaning) → Goes (of_meaning d l m)
    by unknown = tt
    by forbidden = tt
    by (means k) = on k (after_tail d.fields || any_of (λ g. same_name g (record { kind = k; field_name = l.field_name; free_text = l.free_text })) d.fields) (leb 64 (length d.fields))

goes_cond : (b : Bool) (v w : Verdict) → Goes v → Goes w → Goes (cond b v w)
goes_cond true v w h k = h
goes_cond false v w h k = k

line_goes : (f : Bool) (d : Description) (p : Part) → Goes (line_verdict f (after_header d) p)
line_goes f d p =
    goes_cond (ignored (span blank p.octets).rest) (goes_on (after_header d)) _ tt
    (goes_cond (as_set f (not (null (span blank p.octets).front))) _ (faulty 2) (field_goes d (field_line (p.place + length p.octets) (span blank p.octets).rest)) tt)

first_goes : (f : Bool) (p : Part) → ignored (span blank p.octets).rest ≡ false → Goes (line_verdict f before_header p)
first_goes f p h = rw h (goes_cond (not (null (span blank p.octets).front)) (faulty 2) _ tt (header_goes (header_line (p.place + length p.octets) (span blank p.octets).rest)))

-- 5. All the lines.
null_map : (fs : List Field) → null (map unplaced_field fs) ≡ null fs
null_map [] = refl
null_map (f ∷ fs) = refl

end_same : (p : Progress) → without_places (at_end p) ≡ at_end (unplaced_progress p)
end_same before_header = refl
end_same (after_header d) = rw (null_map d.fields) (by (null d.fields))
  where
    by : (b : Bool) → without_places (cond b (rejected 2 0) (described d)) ≡ cond b (rejected 2 0) (described (unplaced_description d))
    by true = refl
    by false = refl

end_numbers : (n : ℕ) (p : Progress) → numbers_on n (at_end p) ≡ at_end p
end_numbers n before_header = refl
end_numbers n (after_header d) = by (null d.fields)
  where
    by : (b : Bool) → numbers_on n (cond b (rejected 2 0) (described d)) ≡ cond b (rejected 2 0) (described d)
    by true = refl
    by false = refl

lines_end : (n : ℕ) (p q : Progress) → unplaced_progress p ≡ unplaced_progress q → without_places (at_end q) ≡ numbers_on n (without_places (at_end p))
lines_end n p q h = end_same q ∙ ap at_end (sym h) ∙ sym (end_numbers n (unplaced_progress p)) ∙ ap (numbers_on n) (sym (end_same p))

module _ (n : ℕ) where
  -- what is said after a line, once for both forms
  abbrev After : ℕ → List (List ℕ) → Type 0
  After i ls = (a b : ℕ) (d e : Description) → unplaced_description d ≡ unplaced_description e
      → without_places (judged_from false (n + suc i) (after_header e) (placed b ls)) ≡ numbers_on n (without_places (judged_from true (suc i) (after_header d) (placed a (map (λ t. 32 ∷ t) ls))))

  step_lines : (i a b : ℕ) (ls : List (List ℕ)) (v w : Verdict) → Goes v → unplaced_verdict v ≡ unplaced_verdict w → After (suc i) ls
      → without_places (after_line w (n + suc i) (λ t. judged_from false (suc (n + suc i)) t (placed b ls))) ≡ numbers_on n (without_places (after_line v (suc i) (λ t. judged_from true (suc (suc i)) t (placed a (map (λ t. 32 ∷ t) ls)))))
  step_lines i a b ls (faulty x) (faulty y) g h ih = let z : x ≡ y = cc in rw z
  step_lines i a b ls (faulty x) (goes_on q) g h ih = let z : ◌≡◌ {A = ℕ} 0 1 = cc in absurd (omega arith)
  step_lines i a b ls (goes_on p) (faulty y) g h ih = let z : ◌≡◌ {A = ℕ} 0 1 = cc in absurd (omega arith)
  step_lines i a b ls (goes_on before_header) (goes_on q) g h ih = absurd g
  step_lines i a b ls (goes_on (after_header c)) (goes_on before_header) g h ih = let z : ◌≡◌ {A = ℕ} 0 1 = cc in absurd (omega arith)
  step_lines i a b ls (goes_on (after_header c)) (goes_on (after_header f)) g h ih =
      let z : unplaced_description c ≡ unplaced_description f = cc in
      let y : suc (n + suc i) ≡ n + suc (suc i) = omega arith in
      rw y (ih a b c f z)

  not_blank : (l : List ℕ) (ls : List (List ℕ)) → all_of storable (l ∷ ls) ≡ true → starts_blank l ≡ false
  not_blank l ls g = not_true (starts_blank l) (and_right (leb (length l) 255 && not (among 10 l)) (not (starts_blank l)) (and_left (storable l) (all_of storable ls) g))

  after_lines : (ls : List (List ℕ)) → all_of storable ls ≡ true → (i : ℕ) → After i ls
  unfolding judged_from
  after_lines [] g i a b d e h = lines_end n (after_header d) (after_header e) (ap after_header h)
  after_lines (l ∷ ls) g i a b d e h =
      step_lines i (a + length (32 ∷ l) + 1) (b + length l + 1) ls (line_verdict true (after_header d) (record { place = a; octets = 32 ∷ l })) (line_verdict false (after_header e) (record { place = b; octets = l }))
      (line_goes true d (record { place = a; octets = 32 ∷ l })) (after_verdicts d e h a b l (not_blank l ls g)) (after_lines ls (and_right (storable l) (all_of storable ls) g) (suc i))

  before_lines : (ls : List (List ℕ)) → all_of storable ls ≡ true → (i a b : ℕ)
      → without_places (judged_from false (n + suc i) before_header (placed b ls)) ≡ numbers_on n (without_places (judged_from true (suc i) before_header (placed a (file_lines ls))))
  unfolding judged_from
  before_lines [] g i a b = refl
  before_lines (l ∷ ls) g i a b = by (ignored l) refl (before_lines ls (and_right (storable l) (all_of storable ls) g) (suc i))
    where
      next : suc (n + suc i) ≡ n + suc (suc i)
      next = omega arith

      by : (c : Bool) → ignored l ≡ c
          → ((a b : ℕ) → without_places (judged_from false (n + suc (suc i)) before_header (placed b ls)) ≡ numbers_on n (without_places (judged_from true (suc (suc i)) before_header (placed a (file_lines ls)))))
          → without_places (judged_from false (n + suc i) before_header (placed b (l ∷ ls))) ≡ numbers_on n (without_places (judged_from true (suc i) before_header (placed a (l ∷ cond c (file_lines ls) (map (λ t. 32 ∷ t) ls)))))
      by true e ih = rw (no_blank l (not_blank l ls g), e, next) (ih (a + length l + 1) (b + length l + 1))
      by false e ih =
          step_lines i (a + length l + 1) (b + length l + 1) ls (line_verdict true before_header (record { place = a; octets = l })) (line_verdict false before_header (record { place = b; octets = l }))
          (first_goes true (record { place = a; octets = l }) (rw (no_blank l (not_blank l ls g)) e)) (before_verdicts a b l (not_blank l ls g) e) (after_lines ls (and_right (storable l) (all_of storable ls) g) (suc i))

-- 6. The lines of the file form.
other_side : (x y : ℕ) → eqb y x ≡ false → eqb x y ≡ false
other_side x y h = by (eqb x y) refl
  where
    by : (b : Bool) → eqb x y ≡ b → b ≡ false
    by true e = absurd (true≢false (sym (eq-eqb y x (sym (eqb-true x y e))) ∙ h))
    by false e = refl

no_lf : (l : List ℕ) → among 10 l ≡ false → Free 10 l
no_lf [] h = tt
no_lf (x ∷ l) h = (other_side x 10 (or_left (eqb 10 x) (among 10 l) h), no_lf l (or_right (eqb 10 x) (among 10 l) h))

abbrev AllFree : List (List ℕ) → Type 0
AllFree [] = Unit {0}
AllFree (l ∷ ls) = Free 10 l × AllFree ls

stored_free : (l : List ℕ) (ls : List (List ℕ)) → all_of storable (l ∷ ls) ≡ true → Free 10 l
stored_free l ls g = no_lf l (not_true (among 10 l) (and_right (leb (length l) 255) (not (among 10 l)) (and_left (leb (length l) 255 && not (among 10 l)) (not (starts_blank l)) (and_left (storable l) (all_of storable ls) g))))

set_free : (ls : List (List ℕ)) → all_of storable ls ≡ true → AllFree (map (λ t. 32 ∷ t) ls)
set_free [] g = tt
set_free (l ∷ ls) g = ((refl, stored_free l ls g), set_free ls (and_right (storable l) (all_of storable ls) g))

file_free : (ls : List (List ℕ)) → all_of storable ls ≡ true → AllFree (file_lines ls)
file_free [] g = tt
file_free (l ∷ ls) g = (stored_free l ls g, by (ignored l) (file_free ls (and_right (storable l) (all_of storable ls) g)))
  where
    by : (b : Bool) → AllFree (file_lines ls) → AllFree (cond b (file_lines ls) (map (λ t. 32 ∷ t) ls))
    by true h = h
    by false h = set_free ls (and_right (storable l) (all_of storable ls) g)

split_ended : (ls : List (List ℕ)) → AllFree ls → split_on 10 (ended ls) ≡ ls ++ [] ∷ []
split_ended [] h = refl
split_ended (l ∷ ls) h = rw (append_assoc l (10 ∷ []) (ended ls), split_more 10 l (ended ls) h.0, split_ended ls h.1)

without_last : (ls : List (List ℕ)) → without_empty_last (ls ++ [] ∷ []) ≡ ls
without_last [] = refl
without_last ([] ∷ []) = refl
without_last ((x ∷ l) ∷ []) = refl
without_last ([] ∷ m ∷ ls) = ap (λ t. [] ∷ t) (without_last (m ∷ ls))
without_last ((x ∷ l) ∷ m ∷ ls) = ap (λ t. (x ∷ l) ∷ t) (without_last (m ∷ ls))

file_lines_lem : (ls : List (List ℕ)) → all_of storable ls ≡ true → lines (file_of ls) ≡ placed 0 (file_lines ls)
file_lines_lem ls g = ap (placed 0) (ap without_empty_last (split_ended (file_lines ls) (file_free ls g)) ∙ without_last (file_lines ls))

numbers_places : (n : ℕ) (j : Judged) → numbers_on n (without_places j) ≡ without_places (numbers_on n j)
numbers_places n (rejected m zero) = refl
numbers_places n (rejected m (suc i)) = refl
numbers_places n (described d) = refl

-- the same but for places, so the same conversions
same_forms : (n : ℕ) (file strings : Judged) → without_places strings ≡ numbers_on n (without_places file) → SameForms n file strings
same_forms n file strings h = record {
  description = h;
  prints = λ first len es ns rdata. sym (print_same strings first len es ns rdata) ∙ ap (λ j. printing_under j first len es ns rdata) (h ∙ numbers_places n file) ∙ print_same (numbers_on n file) first len es ns rdata;
  reads = λ first len es ns o t. sym (read_under_same strings first len es ns o t) ∙ ap (λ j. reading_under j first len es ns o t) (h ∙ numbers_places n file) ∙ read_under_same (numbers_on n file) first len es ns o t;
}

pub shared_lines : SharedLines
shared_lines n at ls g =
    let z : suc n ≡ n + 1 = omega arith in
    same_forms n (judged_from true 1 before_header (lines (file_of ls))) (stored_lines (suc n) (placed at ls)) (rw (file_lines_lem ls g, z) (before_lines n ls g 0 0 at))

-- 7. The strings after the tag.
string_before : (s q : List ℕ) → taken (string_count true) q ≡ took (length q) → taken (string_count true) (with_count s ++ q) ≡ took (suc (length (s ++ q)))
unfolding taken
string_before [] q e = rw e
string_before (x ∷ s) q e = rw (takes_piece string_octet (string_count true) (λ x. refl) (λ n x. refl) (λ n. refl) (length s) (x ∷ s) q refl e)

whole_strings_lem : (ss : List (List ℕ)) → taken (string_count true) (flat_map with_count ss) ≡ took (length (flat_map with_count ss))
whole_strings_lem [] = unfold taken in refl
whole_strings_lem (s ∷ ss) = string_before s (flat_map with_count ss) (whole_strings_lem ss)

file_judged : (ls : List (List ℕ)) → length (file_of ls) ≤ max_stanza → judged (file_of ls) ≡ judged_from true 1 before_header (lines (file_of ls))
unfolding judged
file_judged ls h = rw (le-leb (length (file_of ls)) max_stanza h)

txt_judged : (ls : List (List ℕ)) → length (txt_of (tag ∷ ls)) ≤ max_stanza → judged_stored 13 (txt_of (tag ∷ ls)) ≡ stored_lines 2 (placed 10 ls)
unfolding judged_stored
txt_judged ls h = rw (le-leb (length (txt_of (tag ∷ ls))) max_stanza h, whole_strings_lem (tag ∷ ls), eq-eqb (length (txt_of (tag ∷ ls))) (length (txt_of (tag ∷ ls))) refl, all_pieces (tag ∷ ls))

pub stored_form : StoredForm
stored_form ls g h k = rw (file_judged ls k, txt_judged ls h) (shared_lines 1 10 ls g)

-- 8. A string that starts with a blank.
blank_front : (t : List ℕ) → starts_blank t ≡ true → null (span blank t).front ≡ false
blank_front [] h = absurd (true≢false (sym h))
blank_front (x ∷ t) h = rw h

pub blank_start : BlankStart
blank_start before_header l h k = rw (k, blank_front l.octets h)
blank_start (after_header d) l h k = rw (k, blank_front l.octets h)

-- 9. A string of TXT data has at most 255 octets, since its count is an octet.
abbrev Short : List (List ℕ) → Type 0
Short [] = Unit {0}
Short (t ∷ ts) = (length t ≤ 255) × Short ts

abbrev FirstShort : ℕ → List (List ℕ) → Type 0
FirstShort n [] = Unit {0}
FirstShort n (t ∷ ts) = (length t ≤ n) × Short ts

first_more : (n x : ℕ) (ts : List (List ℕ)) → FirstShort n ts → FirstShort (suc n) (cons_first x ts)
first_more n x [] h = tt
first_more n x (t ∷ ts) h = (omega (arith, h.0), h.1)

all_short : (n : ℕ) → n ≤ 255 → (ts : List (List ℕ)) → FirstShort n ts → Short ts
all_short n h [] k = tt
all_short n h (t ∷ ts) k = (omega (arith, k.0), k.1)

after_first : (n : ℕ) (ts : List (List ℕ)) → FirstShort n ts → Short (drop 1 ts)
after_first n [] h = tt
after_first n (t ∷ ts) h = h.1

pieces_short : (n : ℕ) (xs : List ℕ) → Octets xs → FirstShort n (pieces_from n xs)
pieces_short n [] h = (omega arith, tt)
pieces_short zero (c ∷ xs) h = (omega arith, all_short c (omega (arith, h.0)) (pieces_from c xs) (pieces_short c xs h.1))
pieces_short (suc n) (x ∷ xs) h = first_more n x (pieces_from n xs) (pieces_short n xs h.1)

longer : (u t : List ℕ) → length t < length u → same_octets u t ≡ false
longer [] t h = absurd (omega arith)
longer (x ∷ u) [] h = refl
longer (x ∷ u) (y ∷ t) h = rw (longer u t (omega arith)) (by (eqb x y))
  where
    by : (b : Bool) → b && false ≡ false
    by true = refl
    by false = refl

none_short : (u : List ℕ) → 255 < length u → (ts : List (List ℕ)) → Short ts → any_of (same_octets u) ts ≡ false
none_short u h [] k = refl
none_short u h (t ∷ ts) k = rw (longer u t (omega (arith, k.0)), none_short u h ts k.1)

pub no_stored_form : NoStoredForm
no_stored_form t h txt b = none_short (unindented t) h (pieces txt) (after_first 0 (pieces_from 0 txt) (pieces_short 0 txt b))

-- 10. From an accepted file to its strings: the header is not indented and the field lines are.
no_more_blanks : (l : List ℕ) → starts_blank (unindented l) ≡ false
no_more_blanks [] = refl
no_more_blanks (x ∷ l) = by (blank x) refl (no_more_blanks l)
  where
    by : (b : Bool) → blank x ≡ b → starts_blank (unindented l) ≡ false → starts_blank (spanning b x l (span blank l)).rest ≡ false
    by true e h = h
    by false e h = e

goes_verdicts : (p q : Progress) → unplaced_progress p ≡ unplaced_progress q → (a b : ℕ) (l : List ℕ) (r : Progress) → line_verdict true p (record { place = a; octets = l }) ≡ goes_on r
    → unplaced_verdict (goes_on r) ≡ unplaced_verdict (line_verdict false q (record { place = b; octets = unindented l }))
goes_verdicts before_header (after_header e) h a b l r g = let z : ◌≡◌ {A = ℕ} 0 1 = cc in absurd (omega arith)
goes_verdicts (after_header d) before_header h a b l r g = let z : ◌≡◌ {A = ℕ} 0 1 = cc in absurd (omega arith)
goes_verdicts before_header before_header h a b l r g = rw (no_blank (unindented l) (no_more_blanks l)) (by (ignored (unindented l)) (not (null (span blank l).front)) g)
  where
    by : (c i : Bool) → cond c (goes_on before_header) (cond i (faulty 2) (of_header (header_line (a + length l) (unindented l)))) ≡ goes_on r
        → unplaced_verdict (goes_on r) ≡ unplaced_verdict (cond c (goes_on before_header) (of_header (header_line (b + length (unindented l)) (unindented l))))
    by true i g = ap unplaced_verdict (sym g)
    by false true g = let z : ◌≡◌ {A = ℕ} 0 1 = cc in absurd (omega arith)
    by false false g = ap unplaced_verdict (sym g) ∙ header_verdicts _ _ (header_alike (a + length l) (b + length (unindented l)) (unindented l))
goes_verdicts (after_header d) (after_header e) h a b l r g = rw (no_blank (unindented l) (no_more_blanks l)) (by (ignored (unindented l)) (not (null (span blank l).front)) g)
  where
    by : (c i : Bool) → cond c (goes_on (after_header d)) (cond i (of_field_line d (field_line (a + length l) (unindented l))) (faulty 2)) ≡ goes_on r
        → unplaced_verdict (goes_on r) ≡ unplaced_verdict (cond c (goes_on (after_header e)) (of_field_line e (field_line (b + length (unindented l)) (unindented l))))
    by true i g = ap unplaced_verdict (sym g) ∙ ap goes_on h
    by false false g = let z : ◌≡◌ {A = ℕ} 0 1 = cc in absurd (omega arith)
    by false true g = let z : unplaced_description d ≡ unplaced_description e = cc in ap unplaced_verdict (sym g) ∙ field_verdicts d e z _ _ (field_alike (a + length l) (b + length (unindented l)) (unindented l))

-- what is said of the lines that are left, from any two places and numbers on
abbrev Stores : Description → List (List ℕ) → Type 0
Stores d ls = (i j a b : ℕ) (p q : Progress) → unplaced_progress p ≡ unplaced_progress q → judged_from true i p (placed a ls) ≡ described d
    → without_places (judged_from false j q (placed b (map unindented ls))) ≡ described (unplaced_description d)

file_strings : (d : Description) (ls : List (List ℕ)) → Stores d ls
unfolding judged_from
file_strings d [] i j a b p q h e = end_same q ∙ ap at_end (sym h) ∙ sym (end_same p) ∙ ap without_places e
file_strings d (l ∷ ls) i j a b p q h e = by (line_verdict true p (record { place = a; octets = l })) refl e (file_strings d ls)
  where
    on : (r : Progress) (w : Verdict) → unplaced_verdict (goes_on r) ≡ unplaced_verdict w → judged_from true (suc i) r (placed (a + length l + 1) ls) ≡ described d → Stores d ls
        → without_places (after_line w j (λ t. judged_from false (suc j) t (placed (b + length (unindented l) + 1) (map unindented ls)))) ≡ described (unplaced_description d)
    on r (faulty n) g k ih = let z : ◌≡◌ {A = ℕ} 0 1 = cc in absurd (omega arith)
    on r (goes_on s) g k ih = let z : unplaced_progress r ≡ unplaced_progress s = cc in ih (suc i) (suc j) (a + length l + 1) (b + length (unindented l) + 1) r s z k

    by : (v : Verdict) → line_verdict true p (record { place = a; octets = l }) ≡ v → after_line v i (λ t. judged_from true (suc i) t (placed (a + length l + 1) ls)) ≡ described d → Stores d ls
        → without_places (judged_from false j q (placed b (map unindented (l ∷ ls)))) ≡ described (unplaced_description d)
    by (faulty n) g k ih = let z : ◌≡◌ {A = ℕ} 0 1 = cc in absurd (omega arith)
    by (goes_on r) g k ih = on r (line_verdict false q (record { place = b; octets = unindented l })) (goes_verdicts p q h a b l r g) k ih

judged_lines : (file : List ℕ) (d : Description) → judged file ≡ described d → judged_from true 1 before_header (lines file) ≡ described d
unfolding judged
judged_lines file d e = by (leb (length file) max_stanza) e
  where
    by : (b : Bool) → cond b (judged_from true 1 before_header (lines file)) (rejected 1 0) ≡ described d → judged_from true 1 before_header (lines file) ≡ described d
    by true e = e
    by false e = let z : ◌≡◌ {A = ℕ} 0 1 = cc in absurd (omega arith)

pub stored_of_file : StoredOfFile
stored_of_file file d e g h =
    same_forms 1 (judged file) (judged_stored 13 (txt_of (tag ∷ strings_of file)))
    (rw (e, txt_judged (strings_of file) h) (file_strings d (lines_of file) 1 2 0 10 before_header before_header refl (judged_lines file d e)))

-- 11. Where the strings stand.
drop_next : (at x : ℕ) (txt xs : List ℕ) → drop at txt ≡ x ∷ xs → drop (at + 1) txt ≡ xs
drop_next zero x [] xs e = let z : ◌≡◌ {A = ℕ} 0 1 = cc in absurd (omega arith)
drop_next zero x (y ∷ txt) xs e = cc
drop_next (suc at) x [] xs e = let z : ◌≡◌ {A = ℕ} 0 1 = cc in absurd (omega arith)
drop_next (suc at) x (y ∷ txt) xs e = let z : suc at + 1 ≡ suc (at + 1) = omega arith in rw z (drop_next at x txt xs e)

module _ (txt : List ℕ) where
  abbrev here : Part → List ℕ
  here p = take (length p.octets) (drop p.place txt)

  first_here : (at x : ℕ) (xs : List ℕ) (ts : List (List ℕ)) → drop at txt ≡ x ∷ xs → map here (placed (at + 1) ts) ≡ ts → map here (placed at (cons_first x ts)) ≡ cons_first x ts
  first_here at x xs [] e h = refl
  first_here at x xs (t ∷ ts) e h =
      let a : take (length t) (drop (at + 1) txt) ≡ t = cc in
      let b : map here (placed (at + 1 + length t + 1) ts) ≡ ts = cc in
      let c : at + suc (length t) + 1 ≡ at + 1 + length t + 1 = omega arith in
      rw (c, b, e, (rw (drop_next at x txt xs e) at a))

  pieces_here : (n at : ℕ) (xs : List ℕ) → drop at txt ≡ xs → map here (placed at (pieces_from n xs)) ≡ pieces_from n xs
  pieces_here n at [] e = refl
  pieces_here zero at (c ∷ xs) e = let z : at + 0 + 1 ≡ at + 1 = omega arith in rw (z, pieces_here c (at + 1) xs (drop_next at c txt xs e))
  pieces_here (suc n) at (x ∷ xs) e = first_here at x xs (pieces_from n xs) e (pieces_here n (at + 1) xs (drop_next at x txt xs e))

pub strings_stand : StringsStand
strings_stand [] = refl
strings_stand (c ∷ xs) = pieces_here (c ∷ xs) c 1 xs refl
