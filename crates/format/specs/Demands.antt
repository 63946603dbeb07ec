-- What is claimed of the definitions. Each statement is a type here; its proof stands in proofs/.
use Rattle.std.specs.Prelude.{ℕ, ◌+◌, ◌-◌, ◌^◌, ◌≤◌, ◌<◌, ◌≡◌, ◌↔◌, ◌⊎◌, Bool, true, false, not, ◌&&◌, List, [], ◌∷◌, length, take, drop, leb, ltb}
use Rattle.format.specs.Lists.{◌>>=◌, all_of, twice}
use Rattle.format.specs.Octets.{Octets, among}
use Rattle.format.specs.Field.{Symbol, Kind, int, rrtype, bitmap, a4, aa, aaaa, name, str, strs, raw, b32, b64, hex, hexc, eui, time, tail, kinds}
use Rattle.format.specs.Digits.{digits, number}
use Rattle.format.specs.Name.{is_wire_name}
use Rattle.format.specs.Grammar.{is_name}
use Rattle.format.specs.Types.{same_symbol}
use Rattle.format.specs.Judge.{Description, same_name, described}
use Rattle.format.specs.Stored.{Lent, judged_of}
use Rattle.format.specs.Token.{Token}
use Rattle.format.specs.Rrtype.{type_text, type_number, read_type}
use Rattle.format.specs.Bitmap.{bitmap_text, read_bitmap}
use Rattle.format.specs.Catalogue.{Entry, TypeName, good_alone, clashes, bad_entry, known, catalogued}
use Rattle.format.specs.Run.{shown, got_or, bare_of, one_bare, read_field, max_rdata, accepts, joined, text_of}
use Rattle.format.specs.Entries.{done, max_text, is_run, run, reading_of, room, stored, print_of, print_with, print, read_of, read_with, read}

-- a tail field stands only last
abbrev pub tails_last : List Kind → Bool
tails_last [] = true
tails_last (k ∷ []) = true
tails_last (k ∷ l ∷ ks) = not (tail k) && tails_last (l ∷ ks)

-- symbols are names, distinct, with numbers in range; widths are 1, 2, 4 and 6, 8
abbrev pub sound_symbol : ℕ → Symbol → Bool
sound_symbol w s = is_name s.spelling.octets && ltb s.value (256 ^ w)

-- a kind that the judge may give: symbols and widths as said
abbrev pub sound_kind : Kind → Bool
sound_kind (int w l) = among w (1 ∷ 2 ∷ 4 ∷ []) && all_of (sound_symbol w) l && not (twice same_symbol l)
sound_kind rrtype = true
sound_kind bitmap = true
sound_kind a4 = true
sound_kind aa = true
sound_kind aaaa = true
sound_kind (name m) = true
sound_kind str = true
sound_kind strs = true
sound_kind raw = true
sound_kind b32 = true
sound_kind b64 = true
sound_kind hex = true
sound_kind hexc = true
sound_kind (eui w) = among w (6 ∷ 8 ∷ [])
sound_kind time = true

-- What the judge guarantees of an accepted description.
pub record Sound (d : Description) : Type 0 where
  pub some_field : 1 ≤ length d.fields
  pub most_fields : length d.fields ≤ 64
  pub tails_last_lem : tails_last (kinds d.fields) ≡ true
  pub names_distinct : twice same_name d.fields ≡ false
  pub kinds_sound : all_of sound_kind (kinds d.fields) ≡ true

-- every accepted description is sound, that of a file and that of stored strings (document 02, 4)
abbrev pub Judges : Type 0
Judges = (l : Lent) (d : Description) → judged_of l ≡ described d → Sound d

-- What judging guarantees of a catalogue: "up to 512 entries", "strictly rising by number within 0 to 65,535", names, none `TYPE` and digits, distinct.
abbrev pub sound_names : List TypeName → Bool
sound_names c = leb (length c) 512 && all_of good_alone c && not (twice clashes c)

-- of every catalogue that is not refused, entry for entry
abbrev pub Catalogues : Type 0
Catalogues = (names : List ℕ) (es : List Entry) (c : List TypeName) → catalogued names es ≡ known c → (sound_names c ≡ true) × (length c ≡ length es)

-- "printing answers 0, or 12 for want of room, exactly where the list accepts; with 0 the octets written are that text, and
-- the count, or 12's place, is its length": of the run ks, first and len in a description, with the names c that a catalogue gives.
pub record Prints (es : List Entry) (names : List ℕ) (c : List TypeName) (l : Lent) (first len : ℕ) (ks : List Kind) (xs : List ℕ) : Type 0 where
  pub enough_room : accepts ks xs ≡ true → (out : List ℕ) (at : ℕ) → length (text_of c ks xs) ≤ room out at
      → print_of l first len es names xs out at ≡ record { number = 0; place = length (text_of c ks xs); lent = stored out at (text_of c ks xs) }
  pub no_room : accepts ks xs ≡ true → (out : List ℕ) (at : ℕ) → room out at < length (text_of c ks xs)
      → print_of l first len es names xs out at ≡ record { number = 12; place = length (text_of c ks xs); lent = out }
  pub refuses : accepts ks xs ≡ false → (out : List ℕ) (at : ℕ)
      → (among (print_of l first len es names xs out at).number (1 ∷ 8 ∷ 9 ∷ 10 ∷ []) ≡ true) × ((print_of l first len es names xs out at).lent ≡ out)

-- "A division is the number of octets in the front, from none to all": one that both lists accept.
pub record Divides (first second : List Kind) (xs : List ℕ) (d : ℕ) : Type 0 where
  pub within : d ≤ length xs
  pub front : accepts first (take d xs) ≡ true
  pub back : accepts second (drop d xs) ≡ true

-- "a cut is a number k from 0 to n. The first list is the run from field 1 of length k, the second the run from field k plus 1 of length n less k."
abbrev pub whole_list : List Kind → List Kind
whole_list ks = run 1 (length ks) ks

abbrev pub first_list : List Kind → ℕ → List Kind
first_list ks k = run 1 k ks

abbrev pub second_list : List Kind → ℕ → List Kind
second_list ks k = run (k + 1) (length ks - k) ks

-- Demand 3 at one description, cut and RDATA.
pub record Cuts (es : List Entry) (names : List ℕ) (c : List TypeName) (l : Lent) (ks : List Kind) (k : ℕ) (xs : List ℕ) : Type 0 where
  -- "The whole list accepts it exactly when it divides into a front the first list accepts and a back the second accepts"
  pub accepted : (accepts (whole_list ks) xs ≡ true) ↔ ((d : ℕ) × Divides (first_list ks k) (second_list ks k) xs d)
  -- "There is then only one such division: under every other, the first list refuses its front or the second its back."
  pub no_other : (d : ℕ) → Divides (first_list ks k) (second_list ks k) xs d → (e : ℕ) → e ≤ length xs → (e ≡ d → ⊥)
      → (accepts (first_list ks k) (take e xs) ≡ false) ⊎ (accepts (second_list ks k) (drop e xs) ≡ false)
  -- "The whole's text is the front's text under the first list, then the back's under the second", joined
  pub text : (d : ℕ) → Divides (first_list ks k) (second_list ks k) xs d
      → text_of c (whole_list ks) xs ≡ joined (text_of c (first_list ks k) (take d xs)) (text_of c (second_list ks k) (drop d xs))
  -- "An empty list accepts the empty RDATA and no other, and its text is empty."
  pub nothing : (accepts [] xs ≡ true) ↔ (xs ≡ [])
  pub no_text : text_of c [] [] ≡ []
  -- what printing answers on these runs
  pub whole_prints : Prints es names c l 1 (length ks) (whole_list ks) xs
  pub first_prints : (d : ℕ) → Prints es names c l 1 k (first_list ks k) (take d xs)
  pub second_prints : (d : ℕ) → Prints es names c l (k + 1) (length ks - k) (second_list ks k) (drop d xs)

-- "Take any accepted description, cut its field list anywhere .. and take any RDATA of at most 65,535 octets."
-- "with the same catalogue on both sides" (document 02, 3): on the whole and on both lists
abbrev pub Demand3 : Type 0
Demand3 = (es : List Entry) (names : List ℕ) (c : List TypeName) → catalogued names es ≡ known c → (l : Lent) (d : Description) → judged_of l ≡ described d → (k : ℕ) → k ≤ length d.fields → (xs : List ℕ) → length xs ≤ max_rdata
    → Cuts es names c l (kinds d.fields) k xs

-- Demand 2 at one run and RDATA: "Accepted RDATA prints as the one text fixed there; reading that text under any valid
-- origin, given room, returns the same octets."
pub record RoundTrip (es : List Entry) (names : List ℕ) (c : List TypeName) (l : Lent) (first len : ℕ) (ks : List Kind) (xs : List ℕ) : Type 0 where
  pub prints : Prints es names c l first len ks xs
  pub reads : accepts ks xs ≡ true → (origin : List ℕ) → is_wire_name origin ≡ true → (out : List ℕ) (at : ℕ) → length xs ≤ room out at
      → read_of l first len es names origin (text_of c ks xs) out at ≡ record { number = 0; place = length xs; lent = stored out at xs }
  pub reads_no_room : accepts ks xs ≡ true → (origin : List ℕ) → is_wire_name origin ≡ true → (out : List ℕ) (at : ℕ) → room out at < length xs
      → read_of l first len es names origin (text_of c ks xs) out at ≡ record { number = 12; place = length xs; lent = out }

-- demand 2, for every accepted description, run and RDATA
abbrev pub Demand2 : Type 0
Demand2 = (es : List Entry) (names : List ℕ) (c : List TypeName) → catalogued names es ≡ known c → (l : Lent) (d : Description) → judged_of l ≡ described d → (first len : ℕ) → is_run first len (kinds d.fields) ≡ true → (xs : List ℕ) → Octets xs
    → RoundTrip es names c l first len (run first len (kinds d.fields)) xs

-- What reading answers with 0 is accepted on the wire.
abbrev pub ReadAccepted : Type 0
ReadAccepted = (es : List Entry) (names : List ℕ) (l : Lent) (d : Description) → judged_of l ≡ described d → (first len : ℕ) (origin text xs : List ℕ) → reading_of l first len es names origin text ≡ done xs
    → accepts (run first len (kinds d.fields)) xs ≡ true

-- "a 13, like want of room, stands apart from acceptance": a bad catalogue is refused whatever the RDATA or the text, once the run is good
pub record Thirteen (es : List Entry) (names : List ℕ) (i : ℕ) (l : Lent) (first len : ℕ) : Type 0 where
  pub printing_13 : (xs : List ℕ) → length xs ≤ max_rdata → (out : List ℕ) (at : ℕ) → print_of l first len es names xs out at ≡ record { number = 13; place = i; lent = out }
  pub reading_13 : (origin : List ℕ) → is_wire_name origin ≡ true → (text : List ℕ) → length text ≤ max_text → (out : List ℕ) (at : ℕ)
      → read_of l first len es names origin text out at ≡ record { number = 13; place = i; lent = out }

-- for every bad catalogue, accepted description and run
abbrev pub BadCatalogue : Type 0
BadCatalogue = (es : List Entry) (names : List ℕ) (i : ℕ) → catalogued names es ≡ bad_entry i → (l : Lent) (d : Description) → judged_of l ≡ described d
    → (first len : ℕ) → is_run first len (kinds d.fields) ≡ true → Thirteen es names i l first len

-- 6 before 13: "after 7 (after 6 when printing)"; so before 7 when reading
pub record Six (es : List Entry) (names : List ℕ) (l : Lent) (first len : ℕ) : Type 0 where
  pub printing_6 : (xs : List ℕ) → length xs ≤ max_rdata → (out : List ℕ) (at : ℕ) → print_of l first len es names xs out at ≡ record { number = 6; place = 0; lent = out }
  pub reading_6 : (origin text : List ℕ) → length text ≤ max_text → (out : List ℕ) (at : ℕ) → read_of l first len es names origin text out at ≡ record { number = 6; place = 0; lent = out }

-- for every catalogue, accepted description and what is no run of it
abbrev pub BadRun : Type 0
BadRun = (es : List Entry) (names : List ℕ) (l : Lent) (d : Description) → judged_of l ≡ described d → (first len : ℕ) → is_run first len (kinds d.fields) ≡ false → Six es names l first len

-- and 7 before 13
abbrev pub BadOrigin : Type 0
BadOrigin = (es : List Entry) (names : List ℕ) (l : Lent) (d : Description) → judged_of l ≡ described d → (first len : ℕ) → is_run first len (kinds d.fields) ≡ true
    → (origin : List ℕ) → is_wire_name origin ≡ false → (text : List ℕ) → length text ≤ max_text → (out : List ℕ) (at : ℕ)
    → read_of l first len es names origin text out at ≡ record { number = 7; place = 0; lent = out }

-- "an empty catalogue gives the old answers": R and R[L] as document 01 has them, whatever text is lent beside it
pub record OldAnswers : Type 0 where
  pub shown_type : (p : List ℕ) → shown [] rrtype p ≡ type_text (number 256 p)
  pub shown_types : (p : List ℕ) → shown [] bitmap p ≡ bitmap_text type_text p
  pub read_type_lem : (o : List ℕ) (ts : List Token) → read_field [] rrtype o ts ≡ one_bare read_type ts
  pub read_types : (o : List ℕ) (ts : List Token) → read_field [] bitmap o ts ≡ got_or (read_bitmap (λ t. bare_of t >>= type_number) ts) []
  pub no_entry_prints : (stanza : List ℕ) (first len : ℕ) (names rdata out : List ℕ) (at : ℕ) → print_with stanza first len [] names rdata out at ≡ print stanza first len rdata out at
  pub no_entry_reads : (stanza : List ℕ) (first len : ℕ) (names origin text out : List ℕ) (at : ℕ) → read_with stanza first len [] names origin text out at ≡ read stanza first len origin text out at

-- Integers of every width: a number below 256 to the w is its w octets, and w octets are their number.
abbrev pub Integers : Type 0
Integers = (w : ℕ) → ((n : ℕ) → n < 256 ^ w → number 256 (digits 256 w n) ≡ n) × ((p : List ℕ) → Octets p → length p ≡ w → digits 256 w (number 256 p) ≡ p)
