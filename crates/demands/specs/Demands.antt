-- The three demands of document 00, in their own words, over calls of the public entries. Of a call nothing is used but the
-- promise of its entry, which is the promise of the C export too.
use Rattle.std.specs.Prelude.{ℕ, ◌+◌, ◌-◌, ◌^◌, ◌≤◌, ◌<◌, ◌≡◌, ◌↔◌, ◌⊎◌, Bool, true, false, List, [], ◌∷◌, length, take, drop}
use Rattle.format.specs.Octets.{Octets, among}
use Rattle.format.specs.Field.{Kind, kinds}
use Rattle.format.specs.Name.{is_wire_name}
use Rattle.format.specs.Judge.{Description, described}
use Rattle.format.specs.Stored.{Lent, as_file, as_stored, judged_of}
use Rattle.format.specs.Catalogue.{Entry, TypeName, bad_entry, known, catalogued}
use Rattle.format.specs.Run.{max_rdata, accepts, joined, text_of}
use Rattle.format.specs.Entries.{done, max_text, is_run, run, reading_of, room, stored, judge_of}
use Rattle.format.specs.Demands.{whole_list, first_list, second_list}
use Rattle.entry.specs.declared.Reply.{Reply}
use Rattle.entry.specs.Entries.{Replies, JudgePromise, PrintPromise, ReadPromise, PrintWithPromise, ReadWithPromise, JudgeStoredPromise, PrintStoredPromise, ReadStoredPromise, PrintOfPromise, ReadOfPromise}
use Rattle.entry.specs.Refusals.{Fixed, print_numbers, read_numbers, print_with_numbers, read_with_numbers, print_stored_numbers, read_stored_numbers, judge_numbers_of}

-- a call that judges a description, however it is lent: its answer, and the promise
pub record JudgeCall (l : Lent) : Type 0 where
  pub reply : Reply
  pub promise : Replies reply (judge_of l)

-- a call of printing with a catalogue: the lent buffer and place, the answer, the buffer afterwards, and the promise
pub record PrintCall (es : List Entry) (names : List ℕ) (l : Lent) (first many : ℕ) (rdata : List ℕ) : Type 0 where
  pub out : List ℕ
  pub at : ℕ
  pub reply : Reply
  pub after : List ℕ
  pub promise : PrintOfPromise l first many es names rdata out at reply after

-- a call of reading with a catalogue, likewise
pub record ReadCall (es : List Entry) (names : List ℕ) (l : Lent) (first many : ℕ) (origin text : List ℕ) : Type 0 where
  pub out : List ℕ
  pub at : ℕ
  pub reply : Reply
  pub after : List ℕ
  pub promise : ReadOfPromise l first many es names origin text out at reply after

-- Every entry's promise is that of such a call, by definition: over a file or over TXT data (document 02, 4), and with `[] []` where
-- no catalogue is named: "an empty catalogue .. stands wherever none is named" (document 02, 3).
pub record EntryCalls : Type 0 where
  pub judge : (stanza : List ℕ) (r : Reply) → JudgePromise stanza r → Replies r (judge_of (as_file stanza))
  pub judge_stored_lem : (txt : List ℕ) (edition : ℕ) (r : Reply) → JudgeStoredPromise txt edition r → Replies r (judge_of (as_stored edition txt))
  pub print : (stanza : List ℕ) (first many : ℕ) (rdata out : List ℕ) (at : ℕ) (r : Reply) (after : List ℕ)
      → PrintPromise stanza first many rdata out at r after → PrintOfPromise (as_file stanza) first many [] [] rdata out at r after
  pub print_with_lem : (stanza : List ℕ) (first many : ℕ) (es : List Entry) (names rdata out : List ℕ) (at : ℕ) (r : Reply) (after : List ℕ)
      → PrintWithPromise stanza first many es names rdata out at r after → PrintOfPromise (as_file stanza) first many es names rdata out at r after
  pub print_stored_lem : (txt : List ℕ) (first many edition : ℕ) (rdata out : List ℕ) (at : ℕ) (r : Reply) (after : List ℕ)
      → PrintStoredPromise txt first many edition rdata out at r after → PrintOfPromise (as_stored edition txt) first many [] [] rdata out at r after
  pub read : (stanza : List ℕ) (first many : ℕ) (origin text out : List ℕ) (at : ℕ) (r : Reply) (after : List ℕ)
      → ReadPromise stanza first many origin text out at r after → ReadOfPromise (as_file stanza) first many [] [] origin text out at r after
  pub read_with_lem : (stanza : List ℕ) (first many : ℕ) (es : List Entry) (names origin text out : List ℕ) (at : ℕ) (r : Reply) (after : List ℕ)
      → ReadWithPromise stanza first many es names origin text out at r after → ReadOfPromise (as_file stanza) first many es names origin text out at r after
  pub read_stored_lem : (txt : List ℕ) (first many edition : ℕ) (origin text out : List ℕ) (at : ℕ) (r : Reply) (after : List ℕ)
      → ReadStoredPromise txt first many edition origin text out at r after → ReadOfPromise (as_stored edition txt) first many [] [] origin text out at r after

-- The numbers with which printing and reading may refuse, by the form of the description: with a catalogue, which no entry takes
-- beside a stored one, and with none.
abbrev pub print_with_numbers_of : Lent → List ℕ
print_with_numbers_of (as_file stanza) = print_with_numbers
print_with_numbers_of (as_stored edition txt) = 13 ∷ print_stored_numbers

abbrev pub read_with_numbers_of : Lent → List ℕ
read_with_numbers_of (as_file stanza) = read_with_numbers
read_with_numbers_of (as_stored edition txt) = 13 ∷ read_stored_numbers

abbrev pub print_numbers_of : Lent → List ℕ
print_numbers_of (as_file stanza) = print_numbers
print_numbers_of (as_stored edition txt) = print_stored_numbers

abbrev pub read_numbers_of : Lent → List ℕ
read_numbers_of (as_file stanza) = read_numbers
read_numbers_of (as_stored edition txt) = read_stored_numbers

-- Demand 1 of an answer: 0, or one of the numbers with which the entry refuses; then "a place fixed in document 01", by its
-- table, or in document 02. The halves of an answer in 64 bits can be told apart.
pub record Answered (numbers : List ℕ) (l : Lent) (many room : ℕ) (r : Reply) : Type 0 where
  pub number : among r.number (0 ∷ numbers) ≡ true
  pub place : (r.number ≡ 0 → ⊥) → Fixed l many room r.number r.place
  pub halves : r.place < 2 ^ 32

-- "a refused call changes no lent octet"
abbrev pub Keeps : Reply → List ℕ → List ℕ → Type 0
Keeps r out after = (r.number ≡ 0 → ⊥) → after ≡ out

-- Demand 1: "Any octets may come in as description, origin, text or RDATA. Every public entry judges them itself, always ends,
-- and refuses with a number and a place fixed in document 01; a refused call changes no lent octet." That an entry judges them
-- itself is that it requires nothing, and that it ends is part of its own proof. RDATA are octets, as a slice's elements are.
pub record FirstDemand : Type 0 where
  pub judging : (l : Lent) (c : JudgeCall l) → Answered (judge_numbers_of l) l 0 0 c.reply
  pub printing : (es : List Entry) (names : List ℕ) (l : Lent) (first many : ℕ) (xs : List ℕ) → Octets xs → (c : PrintCall es names l first many xs)
      → Answered (print_with_numbers_of l) l many (room c.out c.at) c.reply × Keeps c.reply c.out c.after
  pub reading : (es : List Entry) (names : List ℕ) (l : Lent) (first many : ℕ) (origin text : List ℕ) (c : ReadCall es names l first many origin text)
      → Answered (read_with_numbers_of l) l many (room c.out c.at) c.reply × Keeps c.reply c.out c.after
  -- "an empty catalogue gives the old answers" (document 02, 3): never 13
  pub printing_old : (names : List ℕ) (l : Lent) (first many : ℕ) (xs : List ℕ) → Octets xs → (c : PrintCall [] names l first many xs)
      → Answered (print_numbers_of l) l many (room c.out c.at) c.reply
  pub reading_old : (names : List ℕ) (l : Lent) (first many : ℕ) (origin text : List ℕ) (c : ReadCall [] names l first many origin text)
      → Answered (read_numbers_of l) l many (room c.out c.at) c.reply

-- "Want of room apart" a call accepts: 0, or 12
abbrev pub taken : Reply → Bool
taken r = among r.number (0 ∷ 12 ∷ [])

-- "printing answers 0, or 12 for want of room"
abbrev pub accepted : {es : List Entry} {names : List ℕ} {l : Lent} {first many : ℕ} {rdata : List ℕ} → PrintCall es names l first many rdata → Bool
accepted c = taken c.reply

-- the octets written
abbrev pub written : {es : List Entry} {names : List ℕ} {l : Lent} {first many : ℕ} {rdata : List ℕ} → PrintCall es names l first many rdata → List ℕ
written c = take c.reply.place (drop c.at c.after)

-- the RDATA written
abbrev pub rdata_of : {es : List Entry} {names : List ℕ} {l : Lent} {first many : ℕ} {origin text : List ℕ} → ReadCall es names l first many origin text → List ℕ
rdata_of c = take c.reply.place (drop c.at c.after)

-- ".. exactly where the list accepts; with 0 the octets written are that text, and the count, or 12's place, is its length": with
-- the names of types of the catalogue
pub record Answers (es : List Entry) (names : List ℕ) (types : List TypeName) (ks : List Kind) (l : Lent) (first many : ℕ) (xs : List ℕ)
    (c : PrintCall es names l first many xs) : Type 0 where
  pub exactly : accepted c ≡ accepts ks xs
  pub text : c.reply.number ≡ 0 → (c.reply.place ≡ length (text_of types ks xs)) × (written c ≡ text_of types ks xs)
      × (c.after ≡ stored c.out c.at (text_of types ks xs))
  pub needed : c.reply.number ≡ 12 → (c.reply.place ≡ length (text_of types ks xs)) × (room c.out c.at < length (text_of types ks xs)) × (c.after ≡ c.out)
  pub refused : accepted c ≡ false → (among c.reply.number (1 ∷ 8 ∷ 9 ∷ 10 ∷ []) ≡ true) × (c.after ≡ c.out)

-- ".. given room, returns the same octets": 0, their number, and only they change; else 12, "octets needed", and nothing does
pub record Returns (es : List Entry) (names : List ℕ) (l : Lent) (first many : ℕ) (origin text xs : List ℕ) (c : ReadCall es names l first many origin text) : Type 0 where
  pub enough_room : length xs ≤ room c.out c.at
      → (c.reply.number ≡ 0) × (c.reply.place ≡ length xs) × (rdata_of c ≡ xs) × (c.after ≡ stored c.out c.at xs)
  pub no_room : room c.out c.at < length xs → (c.reply.number ≡ 12) × (c.reply.place ≡ length xs) × (c.after ≡ c.out)

-- "13, place the first entry (from 1) bad" (document 02, 3), and nothing changes
abbrev pub BadNames : ℕ → Reply → List ℕ → List ℕ → Type 0
BadNames i r out after = (r.number ≡ 13) × (r.place ≡ i) × (after ≡ out)

-- a description that is accepted, and a run of its fields
pub record RunOf (l : Lent) (first many : ℕ) (ks : List Kind) : Type 0 where
  pub description : Description
  pub accepted_there : judged_of l ≡ described description
  pub is_run_lem : is_run first many (kinds description.fields) ≡ true
  pub fields : ks ≡ run first many (kinds description.fields)

-- Demand 2: "Want of room apart, a description, text or RDATA is accepted exactly when document 01's reading of the published
-- draft accepts it. Accepted RDATA prints as the one text fixed there; reading that text under any valid origin, given room,
-- returns the same octets." It holds "with the same catalogue on both sides, where a 13, like want of room, stands apart from
-- acceptance" (document 02, 3).
pub record SecondDemand : Type 0 where
  -- a description is accepted, with the number of its fields
  pub description : (l : Lent) (c : JudgeCall l)
      → (c.reply.number ≡ 0) ↔ ((d : Description) × (judged_of l ≡ described d) × (c.reply.place ≡ length d.fields))
  -- RDATA under any run, and only under a run, of an accepted description: accepted as the definition accepts it, and printed as its one text
  pub rdata : (es : List Entry) (names : List ℕ) (types : List TypeName) → catalogued names es ≡ known types
      → (l : Lent) (first many : ℕ) (ks : List Kind) → RunOf l first many ks
      → (xs : List ℕ) (c : PrintCall es names l first many xs) → Answers es names types ks l first many xs c
  pub rdata_run : (es : List Entry) (names : List ℕ) (l : Lent) (first many : ℕ) (xs : List ℕ) (c : PrintCall es names l first many xs) → accepted c ≡ true
      → ((ks : List Kind) × RunOf l first many ks) × ((types : List TypeName) × (catalogued names es ≡ known types))
  -- a text is accepted where the definition reads octets from it, and these are written, given room
  pub text : (es : List Entry) (names : List ℕ) (l : Lent) (first many : ℕ) (origin text : List ℕ) (c : ReadCall es names l first many origin text)
      → (taken c.reply ≡ true) ↔ ((xs : List ℕ) × (reading_of l first many es names origin text ≡ done xs) × Returns es names l first many origin text xs c)
  -- a bad catalogue, with a run of an accepted description: 13, whatever the RDATA or the text within its limit
  pub rdata_apart : (es : List Entry) (names : List ℕ) (i : ℕ) → catalogued names es ≡ bad_entry i
      → (l : Lent) (first many : ℕ) (ks : List Kind) → RunOf l first many ks
      → (xs : List ℕ) → length xs ≤ max_rdata → (c : PrintCall es names l first many xs) → BadNames i c.reply c.out c.after
  pub text_apart : (es : List Entry) (names : List ℕ) (i : ℕ) → catalogued names es ≡ bad_entry i
      → (l : Lent) (first many : ℕ) (ks : List Kind) → RunOf l first many ks
      → (origin : List ℕ) → is_wire_name origin ≡ true → (text : List ℕ) → length text ≤ max_text → (c : ReadCall es names l first many origin text)
      → BadNames i c.reply c.out c.after
  -- the round trip, "with the same catalogue on both sides"
  pub returns : (es : List Entry) (names : List ℕ) (l : Lent) (first many : ℕ) (xs : List ℕ) → Octets xs → (p : PrintCall es names l first many xs) → p.reply.number ≡ 0
      → (origin : List ℕ) → is_wire_name origin ≡ true → (q : ReadCall es names l first many origin (written p)) → Returns es names l first many origin (written p) xs q
  -- "the one text": whatever the buffers and places, two calls write the same
  pub one_text : (es : List Entry) (names : List ℕ) (l : Lent) (first many : ℕ) (xs : List ℕ) (p q : PrintCall es names l first many xs)
      → p.reply.number ≡ 0 → q.reply.number ≡ 0 → written p ≡ written q
  -- what reading writes, printing accepts under the same run
  pub read_accepted : (es : List Entry) (names : List ℕ) (l : Lent) (first many : ℕ) (origin text : List ℕ) (q : ReadCall es names l first many origin text) → q.reply.number ≡ 0
      → (p : PrintCall es names l first many (rdata_of q)) → accepted p ≡ true
  -- what reading writes are octets, below 256
  pub read_octets : (es : List Entry) (names : List ℕ) (l : Lent) (first many : ℕ) (origin text : List ℕ) → Octets origin
      → (q : ReadCall es names l first many origin text) → q.reply.number ≡ 0 → Octets (rdata_of q)

-- Demand 3 at one catalogue, description, cut and RDATA, of a call on the whole list and calls on the two lists for each division.
pub record CutCalls (es : List Entry) (names : List ℕ) (types : List TypeName) (l : Lent) (ks : List Kind) (k : ℕ) (xs : List ℕ)
    (whole : PrintCall es names l 1 (length ks) xs) (front : (d : ℕ) → PrintCall es names l 1 k (take d xs))
    (back : (d : ℕ) → PrintCall es names l (k + 1) (length ks - k) (drop d xs)) : Type 0 where
  -- "The whole list accepts it exactly when it divides into a front the first list accepts and a back the second accepts"
  pub divides : (accepted whole ≡ true) ↔ ((d : ℕ) × (d ≤ length xs) × (accepted (front d) ≡ true) × (accepted (back d) ≡ true))
  -- "There is then only one such division: under every other, the first list refuses its front or the second its back."
  pub no_other : (d : ℕ) → d ≤ length xs → accepted (front d) ≡ true → accepted (back d) ≡ true → (e : ℕ) → e ≤ length xs → (e ≡ d → ⊥)
      → (accepted (front e) ≡ false) ⊎ (accepted (back e) ≡ false)
  -- "The whole's text is the front's text under the first list, then the back's under the second", joined
  pub texts : (d : ℕ) → d ≤ length xs → whole.reply.number ≡ 0 → (front d).reply.number ≡ 0 → (back d).reply.number ≡ 0
      → written whole ≡ joined (written (front d)) (written (back d))
  -- what each call answers, by the definitions
  pub whole_answers : Answers es names types (whole_list ks) l 1 (length ks) xs whole
  pub front_answers : (d : ℕ) → Answers es names types (first_list ks k) l 1 k (take d xs) (front d)
  pub back_answers : (d : ℕ) → Answers es names types (second_list ks k) l (k + 1) (length ks - k) (drop d xs) (back d)

-- "An empty list accepts the empty RDATA and no other, and its text is empty."
pub record EmptyCall (es : List Entry) (names : List ℕ) (l : Lent) (k : ℕ) (xs : List ℕ) (c : PrintCall es names l (k + 1) 0 xs) : Type 0 where
  pub only : (accepted c ≡ true) ↔ (xs ≡ [])
  pub none : accepted c ≡ true → (c.reply.number ≡ 0) × (c.reply.place ≡ 0) × (c.after ≡ c.out)

-- Demand 3: "Take any accepted description, cut its field list anywhere .. and take any RDATA of at most 65,535 octets."
-- "with the same catalogue on both sides" (document 02, 3): one that is not refused, on the whole and on both lists
abbrev pub ThirdDemand : Type 0
ThirdDemand = (es : List Entry) (names : List ℕ) (types : List TypeName) → catalogued names es ≡ known types
    → (l : Lent) (d : Description) → judged_of l ≡ described d → (k : ℕ) → k ≤ length d.fields
    → (xs : List ℕ) → length xs ≤ max_rdata
    → ((whole : PrintCall es names l 1 (length (kinds d.fields)) xs) (front : (e : ℕ) → PrintCall es names l 1 k (take e xs))
    (back : (e : ℕ) → PrintCall es names l (k + 1) (length (kinds d.fields) - k) (drop e xs)) → CutCalls es names types l (kinds d.fields) k xs whole front back)
    × ((c : PrintCall es names l (k + 1) 0 xs) → EmptyCall es names l k xs c)
