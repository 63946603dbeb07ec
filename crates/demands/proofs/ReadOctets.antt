-- What reading answers are octets, for every kind of field, any catalogue and any text: a token's octets are tab and 20 to 7E hex, and each reader gives octets.
use Prim.Native.Nat.{ℕ, zero, suc, ◌+◌, ◌*◌, ◌-◌, ◌^◌, ◌≤◌, ◌<◌}
use mathlib.Core.Path.{◌≡◌, refl}
use mathlib.Core.Bool.{Bool, true, false, not, cond, ◌&&◌, ◌||◌}
use mathlib.Core.List.{List, [], ◌∷◌, ◌++◌, map}
use Rattle.std.specs.Prelude.{Option, None, Some}
use native.Mathlib.Omega.{arith}
use native.Mathlib.Nat.{pow-suc, mul-le-mul_right}
use lib.ListN.{length}
use lib.Dec.{leb, ltb, eqb}
use borrow.Author.Tests.{eqb-true, ltb-true, leb-true, ne_eqb}
use Rattle.format.specs.Lists.{◌>>=◌, provided, or_else, cons_both, each_of, exactly, null, flat, parting, split, Spanned, span}
use Rattle.format.specs.Octets.{Below, Octets, ascii, in_range, among, blank, digit, letter, lowered, same_octets, split_on}
use Rattle.format.specs.Field.{Kind, int, rrtype, bitmap, a4, aa, aaaa, name, str, strs, raw, b32, b64, hex, hexc, eui, time, kinds}
use Rattle.format.specs.Digits.{digits, number, digit_value}
use Rattle.format.specs.Number.{decimal, decimal_of, below, symbol_value, read_integer}
use Rattle.format.specs.Token.{text_octet, quote_mark, guarded, Token, bare, quoted, broken, Scan, between, in_bare, in_quotes, closed, ScanMove, skip, keep, end_bare, end_quoted, breaks, bare_octet, scan_step, scan_end, into_first, after_scan, scanned, tokens, Item, plain, escape, octet_of, Escaping, outside, slash, one_digit, two_digits, EscapeMove, moves, gives, bad_escape, escape_step, escape_end, after_escape, unescaped_from, unescaped}
use Rattle.format.specs.Text.{with_count, counted, string_value, read_string, not_empty, read_raw}
use Rattle.format.specs.Name.{is_dot, is_wire_name, label_before, wire_name, name_of, read_name}
use Rattle.format.specs.Base.{bits, whole_octets, from_digits, read_base32, base64_value, padding, not_padding, unpadded, read_base64}
use Rattle.format.specs.Hex.{hex_pair, from_hex, read_counted_hex}
use Rattle.format.specs.Eui.{read_eui}
use Rattle.format.specs.Address.{small_number, read_a, group_octets, group_of, read_aa, eight_groups, at_double_colon, read_aaaa}
use Rattle.format.specs.Bitmap.{bits_of, octets_from, window_octets, before_zeros, without_last_zeros, block_of, blocks_from, blocks, read_bitmap}
use Rattle.format.specs.Time.{moment_of, read_time}
use Rattle.format.specs.Catalogue.{Entry, TypeName, Catalogued, bad_entry, known, catalogued, type_number_in, read_type_in}
use Rattle.format.specs.Run.{Got, no_token, bad_token, got, got_or, bare_of, one_token, one_bare, joined_bares, read_field, Parts, refused, parts, with_first, max_rdata, after_reading, read_run}
use Rattle.format.specs.Judge.{Judged, rejected, described}
use Rattle.format.specs.Stored.{Lent, judged_of}
use Rattle.format.specs.Entries.{Answer, done, refusal, max_text, or_refusal, of_stanza, of_parts, is_run, run, of_catalogue, reading_of}
use Rattle.format.proofs.Lists.{and_left, and_right, below_append}
use Rattle.format.proofs.Digits.{digits_below, number_bound}
use Rattle.format.proofs.Base.{bits_below}
use Rattle.format.proofs.Bitmap.{window_length}

-- What an option holds has a property, where it holds anything; and what a test picks.
abbrev Gives : {A : Type 0} → (A → Type 0) → Option A → Type 0
Gives P None = Unit {0}
Gives P (Some x) = P x

gives_then : {A B : Type 0} (P : A → Type 0) (Q : B → Type 0) (o : Option A) (f : A → Option B) → Gives P o → ((x : A) → P x → Gives Q (f x)) → Gives Q (o >>= f)
gives_then P Q None f h k = tt
gives_then P Q (Some x) f h k = k x h

gives_after : {A B : Type 0} (Q : B → Type 0) (o : Option A) (f : A → Option B) → ((x : A) → Gives Q (f x)) → Gives Q (o >>= f)
gives_after Q None f k = tt
gives_after Q (Some x) f k = k x

gives_provided : {A : Type 0} (P : A → Type 0) (b : Bool) (x : A) → (b ≡ true → P x) → Gives P (provided b x)
gives_provided P true x h = h refl
gives_provided P false x h = tt

gives_both : {A : Type 0} (P : A → Type 0) (Q : List A → Type 0) → ((x : A) (xs : List A) → P x → Q xs → Q (x ∷ xs)) → (o : Option A) (p : Option (List A)) → Gives P o → Gives Q p
    → Gives Q (cons_both o p)
gives_both P Q h None p a b = tt
gives_both P Q h (Some x) None a b = tt
gives_both P Q h (Some x) (Some xs) a b = h x xs a b

on_test : {A : Type 0} (P : A → Type 0) (b : Bool) (x y : A) → (b ≡ true → P x) → P y → P (cond b x y)
on_test P true x y h k = h refl
on_test P false x y h k = k

-- Lists that a partial function gives: numbers below a bound, and octets one list after another.
abbrev All : {A : Type 0} → (A → Type 0) → List A → Type 0
All P [] = Unit {0}
All P (x ∷ xs) = P x × All P xs

abbrev Less : ℕ → ℕ → Type 0
Less b x = x < b

each_below : {A : Type 0} (b : ℕ) (f : A → Option ℕ) → ((x : A) → Gives (Less b) (f x)) → (xs : List A) → Gives (Below b) (each_of f xs)
each_below b f h [] = tt
each_below b f h (x ∷ xs) = gives_both (Less b) (Below b) (λ y ys a c. (a, c)) (f x) (each_of f xs) (h x) (each_below b f h xs)

each_flat : {A : Type 0} (P : A → Type 0) (f : A → Option (List ℕ)) → ((x : A) → P x → Gives Octets (f x)) → (xs : List A) → All P xs → Gives (λ l. Octets (flat l)) (each_of f xs)
each_flat P f h [] w = tt
each_flat P f h (x ∷ xs) w =
    gives_both Octets (λ l. Octets (flat l)) (λ y ys a b. below_append 256 y (flat ys) a b) (f x) (each_of f xs) (h x w.0) (each_flat P f h xs w.1)

-- Readers whose values are octets, where their text is; what follows a reader, and what is made of any value.
abbrev Reader : (List ℕ → Option (List ℕ)) → Type 0
Reader f = (t : List ℕ) → Octets t → Gives Octets (f t)

octets_then : (o : Option (List ℕ)) (f : List ℕ → Option (List ℕ)) → Gives Octets o → Reader f → Gives Octets (o >>= f)
octets_then o f h k = gives_then Octets Octets o f h k

made_octets : {A : Type 0} (o : Option A) (g : A → List ℕ) → ((x : A) → Octets (g x)) → Gives Octets (o >>= λ x. Some (g x))
made_octets o g h = gives_after Octets o (λ x. Some (g x)) h

-- I1, I2, I4, R, T, AA and AAAA: numbers as digits in base 256
number_octets : (w : ℕ) (o : Option ℕ) → Gives Octets (o >>= λ v. Some (digits 256 w v))
number_octets w o = made_octets o (digits 256 w) (λ v. digits_below 256 w v (omega arith))

groups_octets : (gs : List ℕ) → Octets (group_octets gs)
groups_octets [] = tt
groups_octets (g ∷ gs) = below_append 256 (digits 256 2 g) (group_octets gs) (digits_below 256 2 g (omega arith)) (groups_octets gs)

-- A and EUI: numbers below 256, each tested or of two hex digits
below_less : (m : ℕ) (o : Option ℕ) → Gives (Less m) (below m o)
below_less m o = gives_after (Less m) o (λ v. provided (ltb v m) v) (λ v. gives_provided (Less m) (ltb v m) v (ltb-true v m))

digit_less : (b x : ℕ) → Gives (Less b) (digit_value b x)
digit_less b x =
    on_test (Gives (Less b)) (digit x) (here (x - 48)) _ (λ e. tested (x - 48))
    (on_test (Gives (Less b)) (letter x) (here (lowered x - 97 + 10)) None (λ e. tested (lowered x - 97 + 10)) tt)
  where
    here : ℕ → Option ℕ
    here v = provided (ltb v b) v

    tested : (v : ℕ) → Gives (Less b) (here v)
    tested v = gives_provided (Less b) (ltb v b) v (ltb-true v b)

small_less : (t : List ℕ) → Gives (Less 256) (small_number t)
small_less t =
    gives_then (Less 256) (Less 256) (below 256 (decimal_of t)) _ (below_less 256 (decimal_of t)) (λ v h. gives_provided (Less 256) (same_octets (decimal v) t) v (λ e. h))

pair_less : (t : List ℕ) → Gives (Less 256) (hex_pair t)
pair_less [] = tt
pair_less (a ∷ []) = tt
pair_less (a ∷ b ∷ []) = by (digit_value 16 a) (digit_value 16 b) (digit_less 16 a) (digit_less 16 b)
  where
    by : (o p : Option ℕ) → Gives (Less 16) o → Gives (Less 16) p → Gives (Less 256) (cons_both o (cons_both p (Some [])) >>= λ ds. Some (number 16 ds))
    by None p h k = tt
    by (Some x) None h k = tt
    by (Some x) (Some y) h k = omega arith
pair_less (a ∷ b ∷ c ∷ t) = rw (ne_eqb (suc (suc (suc (length t)))) 2 (omega arith)) tt

separated_octets : (n c : ℕ) (f : List ℕ → Option ℕ) → ((t : List ℕ) → Gives (Less 256) (f t)) → (t : List ℕ) → Gives Octets (exactly n (each_of f (split_on c t)))
separated_octets n c f h t = octets_then (each_of f (split_on c t)) _ (each_below 256 f h (split_on c t)) (λ l b. gives_provided Octets (eqb (length l) n) l (λ e. b))

-- octets after their count, which is below 256, and octets of which there must be some
count_small : (lo hi : ℕ) (t : List ℕ) → hi < 256 → in_range lo hi (length t) ≡ true → length t < 256
count_small lo hi t h e = omega (arith, leb-true (length t) hi (and_right (leb lo (length t)) (leb (length t) hi) e))

counted_octets : (lo : ℕ) → Reader (counted lo)
counted_octets lo t b = gives_provided Octets (in_range lo 255 (length t)) (with_count t) (λ e. (count_small lo 255 t (omega arith) e, b))

some_octets : Reader not_empty
some_octets t b = gives_provided Octets (not (null t)) t (λ e. b)

-- X, B32 and B64: pairs of hex digits, and bits by eight
hex_octets : (t : List ℕ) → Gives Octets (from_hex t)
hex_octets [] = tt
hex_octets (a ∷ []) = tt
hex_octets (a ∷ b ∷ t) = gives_both (Less 256) Octets (λ x xs h k. (h, k)) (hex_pair (a ∷ b ∷ [])) (from_hex t) (pair_less (a ∷ b ∷ [])) (hex_octets t)

whole_octets_lem : (w m v : ℕ) (bs : List ℕ) → suc v * 2 ^ m ≤ 256 → Below 2 bs → Gives Octets (whole_octets w m v bs)
whole_octets_lem w m v [] h b = gives_provided Octets (ltb (8 - m) w && eqb v 0) [] (λ e. tt)
whole_octets_lem w zero v (c ∷ bs) h b = tt
whole_octets_lem w (suc zero) v (c ∷ bs) h b =
    gives_both (Less 256) Octets (λ x xs h k. (h, k)) (Some (v * 2 + c)) (whole_octets w 8 0 bs) (omega (arith, b.0)) (whole_octets_lem w 8 0 bs (omega arith) b.1)
whole_octets_lem w (suc (suc m)) v (c ∷ bs) h b =
    let l : suc (v * 2 + c) ≤ suc v * 2 = omega (arith, b.0) in
    let g : suc v * (2 ^ suc m * 2) ≤ 256 = rw (pow-suc 2 (suc m)) at h in
    whole_octets_lem w (suc m) (v * 2 + c) bs (omega (arith, mul-le-mul_right (2 ^ suc m) l)) b.1

base_octets : (w : ℕ) (ds : List ℕ) → Gives Octets (from_digits w ds)
base_octets w ds = whole_octets_lem w 8 0 (bits w ds) (omega arith) (bits_below w ds)

unpadded_octets : (s : Spanned) → Gives Octets (unpadded s)
unpadded_octets s =
    on_test (Gives Octets) (same_octets s.rest (padding (length s.front))) (each_of base64_value s.front >>= from_digits 6) None
    (λ e. gives_after Octets (each_of base64_value s.front) (from_digits 6) (base_octets 6)) tt

-- R[L]: a block's window is one of 256, its count at most 32, and its octets are of eight bits
bit_less : (ts : List ℕ) (n k : ℕ) → Below 2 (bits_of ts n k)
bit_less ts n zero = tt
bit_less ts n (suc k) = (on_test (Less 2) (among n ts) 1 0 (λ e. omega arith) (omega arith), bit_less ts (suc n) k)

window_octets_lem : (ts : List ℕ) (n k : ℕ) → Octets (octets_from ts n k)
unfolding octets_from
window_octets_lem ts n zero = tt
window_octets_lem ts n (suc k) = (number_bound 2 (bits_of ts n 8) (bit_less ts n 8), window_octets_lem ts (n + 8) k)

cut_octets : (xs : List ℕ) → Octets xs → Octets (without_last_zeros xs) × (length (without_last_zeros xs) ≤ length xs)
cut_octets [] h = (tt, omega arith)
cut_octets (x ∷ xs) h = let (a, l) = cut_octets xs h.1 in by x (without_last_zeros xs) h.0 a l
  where
    by : (x : ℕ) (ys : List ℕ) → x < 256 → Octets ys → length ys ≤ length xs → Octets (before_zeros x ys) × (length (before_zeros x ys) ≤ suc (length xs))
    by zero [] h a l = (tt, omega arith)
    by (suc x) [] h a l = ((h, tt), omega arith)
    by x (y ∷ ys) h a l = ((h, a), omega arith)

block_octets : (w : ℕ) (xs : List ℕ) → w < 256 → length xs < 256 → Octets xs → Octets (block_of w xs)
block_octets w [] h l b = tt
block_octets w (x ∷ xs) h l b = (h, (l, b))

blocks_octets : (ts : List ℕ) (w k : ℕ) → w + k ≤ 256 → Octets (blocks_from ts w k)
unfolding blocks_from
blocks_octets ts w zero h = tt
blocks_octets ts w (suc k) h =
    let (a, l) = cut_octets (window_octets ts w) (window_octets_lem ts (w * 256) 32) in
    below_append 256 (block_of w (without_last_zeros (window_octets ts w))) (blocks_from ts (suc w) k)
    (block_octets w (without_last_zeros (window_octets ts w)) (omega arith) (omega (arith, window_length ts (w * 256) 32)) a) (blocks_octets ts (suc w) k (omega arith))

-- Tokens: whatever the text, a scan keeps only its tabs and 20 to 7E hex.
abbrev Written : Token → Type 0
Written (bare t) = Octets t
Written (quoted t) = Octets t
Written broken = Unit {0}

abbrev Kept : ℕ → ScanMove → Type 0
Kept x (skip s) = Unit {0}
Kept x (keep s) = x < 256
Kept x end_bare = Unit {0}
Kept x end_quoted = Unit {0}
Kept x breaks = Unit {0}

text_small : (x : ℕ) → text_octet x ≡ true → x < 256
text_small x h = by (eqb x 9) refl h
  where
    by : (b : Bool) → eqb x 9 ≡ b → b || in_range 0x20 0x7E x ≡ true → x < 256
    by true e h = omega (arith, eqb-true x 9 e)
    by false e h = omega (arith, leb-true x 0x7E (and_right (leb 0x20 x) (leb x 0x7E) h))

bare_kept : (x : ℕ) → Kept x (bare_octet x)
bare_kept x = on_test (Kept x) (text_octet x && not (guarded x)) (keep (in_bare (eqb x 92))) breaks (λ e. text_small x (and_left (text_octet x) (not (guarded x)) e)) tt

step_kept : (s : Scan) (x : ℕ) → Kept x (scan_step s x)
step_kept between x = on_test (Kept x) (blank x) (skip between) _ (λ e. tt) (on_test (Kept x) (quote_mark x) (skip (in_quotes x false)) (bare_octet x) (λ e. tt) (bare_kept x))
step_kept (in_bare true) x = on_test (Kept x) (text_octet x) (keep (in_bare false)) breaks (text_small x) tt
step_kept (in_bare false) x = on_test (Kept x) (blank x) end_bare (bare_octet x) (λ e. tt) (bare_kept x)
step_kept (in_quotes q true) x = on_test (Kept x) (text_octet x) (keep (in_quotes q false)) breaks (text_small x) tt
step_kept (in_quotes q false) x = on_test (Kept x) (eqb x q) (skip closed) _ (λ e. tt) (on_test (Kept x) (text_octet x) (keep (in_quotes q (eqb x 92))) breaks (text_small x) tt)
step_kept closed x = on_test (Kept x) (blank x) end_quoted breaks (λ e. tt) tt

end_written : (s : Scan) → All Written (scan_end s)
end_written between = tt
end_written (in_bare true) = (tt, tt)
end_written (in_bare false) = (tt, tt)
end_written (in_quotes q e) = (tt, tt)
end_written closed = (tt, tt)

first_written : (x : ℕ) (ts : List Token) → x < 256 → All Written ts → All Written (into_first x ts)
first_written x [] h w = tt
first_written x (bare t ∷ ts) h w = ((h, w.0), w.1)
first_written x (quoted t ∷ ts) h w = ((h, w.0), w.1)
first_written x (broken ∷ ts) h w = w

scan_written : (s : Scan) (xs : List ℕ) → All Written (scanned s xs)
unfolding scanned
scan_written s [] = end_written s
scan_written s (x ∷ xs) = by (scan_step s x) (step_kept s x) (λ t. scan_written t xs)
  where
    by : (m : ScanMove) → Kept x m → ((t : Scan) → All Written (scanned t xs)) → All Written (after_scan x m (λ t. scanned t xs))
    by (skip t) h ih = ih t
    by (keep t) h ih = first_written x (scanned t xs) h (ih t)
    by end_bare h ih = (tt, ih between)
    by end_quoted h ih = (tt, ih between)
    by breaks h ih = (tt, tt)

-- S: the octets that a token's escapes mean are its own, or `\DDD` up to 255.
abbrev Items : List Item → Type 0
Items is = Octets (map octet_of is)

abbrev Means : EscapeMove → Type 0
Means (moves e) = Unit {0}
Means (gives i) = octet_of i < 256
Means bad_escape = Unit {0}

step_means : (e : Escaping) (x : ℕ) → x < 256 → Means (escape_step e x)
step_means outside x h = on_test Means (eqb x 92) (moves slash) (gives (plain x)) (λ e. tt) h
step_means slash x h = on_test Means (digit x) (moves (one_digit (x - 48))) (gives (escape x)) (λ e. tt) h
step_means (one_digit v) x h = on_test Means (digit x) (moves (two_digits (v * 10 + (x - 48)))) bad_escape (λ e. tt) tt
step_means (two_digits v) x h =
    let n = v * 10 + (x - 48) in
    on_test Means (digit x && leb n 255) (gives (escape n)) bad_escape (λ e. omega (arith, leb-true n 255 (and_right (digit x) (leb n 255) e))) tt

end_items : (e : Escaping) → Gives Items (escape_end e)
end_items outside = tt
end_items slash = tt
end_items (one_digit v) = tt
end_items (two_digits v) = tt

items_octets : (e : Escaping) (xs : List ℕ) → Octets xs → Gives Items (unescaped_from e xs)
unfolding unescaped_from
items_octets e [] b = end_items e
items_octets e (x ∷ xs) b = by (escape_step e x) (step_means e x b.0) (λ f. items_octets f xs b.1)
  where
    by : (m : EscapeMove) → Means m → ((f : Escaping) → Gives Items (unescaped_from f xs)) → Gives Items (after_escape m (λ f. unescaped_from f xs))
    by (moves f) h ih = ih f
    by (gives i) h ih = gives_both (λ i. octet_of i < 256) Items (λ i is a c. (a, c)) (Some i) (unescaped_from outside xs) h (ih outside)
    by bad_escape h ih = tt

value_octets : (t : Token) → Written t → Gives Octets (string_value t)
value_octets (bare t) w = gives_provided Octets (not (among 92 t)) t (λ e. w)
value_octets (quoted t) w = gives_then Items Octets (unescaped t) (λ is. Some (map octet_of is)) (items_octets outside t w) (λ is h. h)
value_octets broken w = tt

string_octets : (t : Token) → Written t → Gives Octets (read_string t)
string_octets t w = octets_then (string_value t) (counted 0) (value_octets t w) (counted_octets 0)

-- N: labels of such octets after their counts, and the origin's octets.
parts_octets : (is : List Item) → Items is → All Octets (map (map octet_of) (split is_dot is))
parts_octets [] h = (tt, tt)
parts_octets (i ∷ is) h = by (is_dot i) (split is_dot is) (parts_octets is h.1)
  where
    by : (b : Bool) (ps : List (List Item)) → All Octets (map (map octet_of) ps) → All Octets (map (map octet_of) (parting b i ps))
    by true ps w = (tt, w)
    by false [] w = tt
    by false (p ∷ ps) w = ((h.0, w.0), w.1)

label_octets : (l w : List ℕ) → Octets l → Octets w → Gives Octets (label_before l w)
label_octets l w a b = gives_provided Octets (in_range 1 63 (length l)) (with_count l ++ w) (λ e. (count_small 1 63 l (omega arith) e, below_append 256 l w a b))

wire_octets : (o : List ℕ) (ps : List (List ℕ)) → Octets o → All Octets ps → Gives Octets (wire_name (Some o) ps)
unfolding wire_name
wire_octets o [] b h = tt
wire_octets o (l ∷ []) b h = on_test (Gives Octets) (null l) (Some (0 ∷ [])) (label_before l o) (λ e. (omega arith, tt)) (label_octets l o h.0 b)
wire_octets o (l ∷ m ∷ ls) b h = octets_then (wire_name (Some o) (m ∷ ls)) (label_before l) (wire_octets o (m ∷ ls) b h.1) (λ w c. label_octets l w h.0 c)

name_octets : (o : List ℕ) → Octets o → Reader (read_name o)
name_octets o b t c =
    on_test (Gives Octets) (same_octets t (ascii "@")) (Some o) (name_of (Some o) t) (λ e. b)
    (on_test (Gives Octets) (same_octets t (ascii ".")) (Some (0 ∷ [])) _ (λ e. (omega arith, tt))
    (gives_then Items Octets (unescaped t) _ (items_octets outside t c)
    (λ is h. octets_then (wire_name (Some o) (map (map octet_of) (split is_dot is))) _ (wire_octets o (map (map octet_of) (split is_dot is)) b (parts_octets is h))
    (λ w d. gives_provided Octets (leb (length w) 255) w (λ e. d)))))

-- What a field gets of such tokens is octets, and tokens left; one token and all of them pass a reader's law on.
abbrev Fine : Got → Type 0
Fine no_token = Unit {0}
Fine bad_token = Unit {0}
Fine (got p ts) = Octets p × All Written ts

or_fine : (o : Option (List ℕ)) (ts : List Token) → Gives Octets o → All Written ts → Fine (got_or o ts)
or_fine None ts h w = tt
or_fine (Some p) ts h w = (h, w)

bare_written : (t : Token) → Written t → Gives Octets (bare_of t)
bare_written (bare t) w = w
bare_written (quoted t) w = tt
bare_written broken w = tt

token_fine : (f : Token → Option (List ℕ)) → ((t : Token) → Written t → Gives Octets (f t)) → (ts : List Token) → All Written ts → Fine (one_token f ts)
token_fine f h [] w = tt
token_fine f h (t ∷ ts) w = or_fine (f t) ts (h t w.0) w.1

bare_fine : (f : List ℕ → Option (List ℕ)) → Reader f → (ts : List Token) → All Written ts → Fine (one_bare f ts)
bare_fine f h ts w = token_fine (λ t. bare_of t >>= f) (λ t w. octets_then (bare_of t) f (bare_written t w) h) ts w

bares_fine : (f : List ℕ → Option (List ℕ)) → Reader f → (ts : List Token) → All Written ts → Fine (joined_bares f ts)
bares_fine f h [] w = tt
bares_fine f h (t ∷ ts) w =
    or_fine (each_of bare_of (t ∷ ts) >>= λ l. f (flat l) >>= not_empty) []
    (gives_then (λ l. Octets (flat l)) Octets (each_of bare_of (t ∷ ts)) (λ l. f (flat l) >>= not_empty) (each_flat Written bare_of bare_written (t ∷ ts) w)
    (λ l b. octets_then (f (flat l)) not_empty (h (flat l) b) some_octets)) tt

module _ (types : List TypeName) (o : List ℕ) (b : Octets o) (ts : List Token) (w : All Written ts) where
  field_fine : (k : Kind) → Fine (read_field types k o ts)
  unfolding read_field
  field_fine (int v l) = bare_fine (read_integer v l) (λ t c. number_octets v (or_else (below (256 ^ v) (decimal_of t)) (symbol_value l t))) ts w
  field_fine rrtype = bare_fine (read_type_in types) (λ t c. number_octets 2 (type_number_in types t)) ts w
  field_fine bitmap = or_fine (read_bitmap type ts) [] (made_octets (each_of type ts) blocks (λ l. blocks_octets l 0 256 (omega arith))) tt
    where
      type : Token → Option ℕ
      type t = bare_of t >>= type_number_in types
  field_fine a4 = bare_fine read_a (λ t c. separated_octets 4 46 small_number small_less t) ts w
  field_fine aa = bare_fine read_aa (λ t c. made_octets (exactly 4 (each_of group_of (split_on 58 t))) group_octets groups_octets) ts w
  field_fine aaaa = bare_fine read_aaaa (λ t c. made_octets (eight_groups t (at_double_colon t)) group_octets groups_octets) ts w
  field_fine (name m) = on_test Fine (m.optional && null ts) (got [] []) (one_bare (read_name o) ts) (λ e. (tt, tt)) (bare_fine (read_name o) (name_octets o b) ts w)
  field_fine str = token_fine read_string string_octets ts w
  field_fine strs =
      let h = gives_then (λ l. Octets (flat l)) Octets (each_of read_string ts) (λ l. Some (flat l)) (each_flat Written read_string string_octets ts w) (λ l h. h) in
      on_test Fine (null ts) no_token _ (λ e. tt) (or_fine (each_of read_string ts >>= λ l. Some (flat l)) [] h tt)
  field_fine raw = token_fine read_raw (λ t c. octets_then (string_value t) not_empty (value_octets t c) some_octets) ts w
  field_fine b32 =
      bare_fine read_base32 (λ t c. gives_after Octets (each_of (digit_value 32) t) _ (λ ds. octets_then (from_digits 5 ds) (counted 1) (base_octets 5 ds) (counted_octets 1))) ts w
  field_fine b64 = bares_fine read_base64 (λ t c. unpadded_octets (span not_padding t)) ts w
  field_fine hex = bares_fine from_hex (λ t c. hex_octets t) ts w
  field_fine hexc =
      bare_fine read_counted_hex (λ t c. on_test (Gives Octets) (same_octets t (ascii "-")) (Some (with_count [])) _ (λ e. (omega arith, tt)) (octets_then (from_hex t) (counted 1) (hex_octets t) (counted_octets 1))) ts w
  field_fine (eui v) = bare_fine (read_eui v) (λ t c. separated_octets v 45 hex_pair pair_less t) ts w
  field_fine time =
      bare_fine read_time (λ t c. number_octets 4 (below (2 ^ 32) (cond (eqb (length t) 14) (each_of (digit_value 10) t >>= moment_of) (decimal_of t)))) ts w

-- A run: the octets of its fields, one after another; and so what reading answers.
abbrev Flat : Parts → Type 0
Flat (refused n i) = Unit {0}
Flat (parts ps) = Octets (flat ps)

first_flat : (p : List ℕ) (r : Parts) → Octets p → Flat r → Flat (with_first p r)
first_flat p (refused n i) h k = tt
first_flat p (parts ps) h k = below_append 256 p (flat ps) h k

module _ (types : List TypeName) (o : List ℕ) (b : Octets o) where
  abbrev read_here : Kind → List Token → Got
  read_here k ts = read_field types k o ts

  run_flat : (ks : List Kind) (ts : List Token) → All Written ts → Flat (read_run read_here ks ts)
  unfolding read_run
  run_flat [] [] w = tt
  run_flat [] (t ∷ ts) w = tt
  run_flat (k ∷ ks) ts w = by (read_field types k o ts) (field_fine types o b ts w k) (run_flat ks)
    where
      by : (g : Got) → Fine g → ((us : List Token) → All Written us → Flat (read_run read_here ks us)) → Flat (after_reading read_here g (λ us. read_run read_here ks us))
      by no_token h ih = tt
      by bad_token h ih = tt
      by (got p us) h ih = first_flat p (read_run read_here ks us) h.0 (ih us h.1)

abbrev Done : Answer → Type 0
Done (done xs) = Octets xs
Done (refusal n i) = Unit {0}

or_done : (n : ℕ) (b : Bool) (a : Answer) → Done a → Done (or_refusal n b a)
or_done n true a h = h
or_done n false a h = tt

stanza_done : (j : Judged) (f : List Kind → Answer) → ((ks : List Kind) → Done (f ks)) → Done (of_stanza j f)
stanza_done (rejected n i) f h = tt
stanza_done (described d) f h = h (kinds d.fields)

names_done : (r : Catalogued) (f : List TypeName → Answer) → ((c : List TypeName) → Done (f c)) → Done (of_catalogue r f)
names_done (bad_entry i) f h = tt
names_done (known c) f h = h c

parts_done : (r : Parts) → Flat r → Done (of_parts r (λ ps. or_refusal 11 (leb (length (flat ps)) max_rdata) (done (flat ps))))
parts_done (refused n i) h = tt
parts_done (parts ps) h = or_done 11 (leb (length (flat ps)) max_rdata) (done (flat ps)) h

reading_done : (es : List Entry) (names : List ℕ) (l : Lent) (first many : ℕ) (origin text : List ℕ) → Octets origin → Done (reading_of l first many es names origin text)
unfolding reading_of
reading_done es names l first many o t b =
    or_done 1 (leb (length t) max_text) _ (stanza_done (judged_of l) _ (λ ks. or_done 6 (is_run first many ks) _ (or_done 7 (is_wire_name o) _
    (names_done (catalogued names es) _ (λ c.
    parts_done (read_run (read_here c o b) (run first many ks) (tokens t)) (run_flat c o b (run first many ks) (tokens t) (scan_written between t)))))))

pub read_octets : (es : List Entry) (names : List ℕ) (l : Lent) (first many : ℕ) (origin text xs : List ℕ) → Octets origin → reading_of l first many es names origin text ≡ done xs → Octets xs
read_octets es names l first many o t xs b e = rw e at (reading_done es names l first many o t b)
