-- The answers of the three jobs, and the lent buffer.
use Rattle.std.specs.Prelude.{ℕ, ◌+◌, ◌-◌, Bool, true, false, cond, ◌&&◌, List, [], ◌++◌, length, take, drop, leb}
use Rattle.format.specs.Lists.{flat}
use Rattle.format.specs.Field.{Kind, kinds}
use Rattle.format.specs.Digits.{number}
use Rattle.format.specs.Token.{tokens}
use Rattle.format.specs.Name.{is_wire_name}
use Rattle.format.specs.Catalogue.{Entry, TypeName, Catalogued, bad_entry, known, catalogued}
use Rattle.format.specs.Judge.{Judged, rejected, described}
use Rattle.format.specs.Stored.{Lent, as_file, as_stored, judged_of}
use Rattle.format.specs.Run.{shown, read_field, Parts, refused, parts, parts_of, max_rdata, text_of_parts, read_run}

-- 0 and the octets; or a refusal's number and place.
pub data Answer : Type 0 where
  done : List ℕ → Answer
  refusal : ℕ → ℕ → Answer

-- "text over 1,048,576"
abbrev pub max_text : ℕ
max_text = 1048576

-- what follows where a test holds; else refusal n at place 0
abbrev pub or_refusal : ℕ → Bool → Answer → Answer
or_refusal n true a = a
or_refusal n false a = refusal n 0

-- the stanza's refusal, or what follows with its fields' kinds
abbrev pub of_stanza : Judged → (List Kind → Answer) → Answer
of_stanza (rejected n i) f = refusal n i
of_stanza (described d) f = f (kinds d.fields)

-- 8, 9 or 10, or what follows with the parts
abbrev pub of_parts : Parts → (List (List ℕ) → Answer) → Answer
of_parts (refused n i) f = refusal n i
of_parts (parts ps) f = f ps

-- 6: "the run's first field is below 1, or first less 1 plus length is over the stanza's field count"
abbrev pub is_run : ℕ → ℕ → List Kind → Bool
is_run first len ks = leb 1 first && leb (first - 1 + len) (length ks)

-- the fields of a run, "given by its first field and its length"
abbrev pub run : ℕ → ℕ → List Kind → List Kind
run first len ks = take len (drop (first - 1) ks)

-- 13, or what follows with the names of types: "13, place the first entry (from 1) bad" (document 02, 3)
abbrev pub of_catalogue : Catalogued → (List TypeName → Answer) → Answer
of_catalogue (bad_entry i) f = refusal 13 i
of_catalogue (known c) f = f c

-- Printing under a judged description, want of room apart. Order: 1; the stanza's; 6; 13, "after 6 when printing"; 8 and 9; 10.
abbrev pub printing_under : Judged → ℕ → ℕ → List Entry → List ℕ → List ℕ → Answer
printing_under j first len entries names rdata =
    or_refusal 1 (leb (length rdata) max_rdata) (
    of_stanza j (λ ks.
    or_refusal 6 (is_run first len ks) (
    of_catalogue (catalogued names entries) (λ c.
    of_parts (parts_of (run first len ks) rdata) (λ ps.
    done (text_of_parts (shown c) (run first len ks) ps))))))

-- under a description as it is lent
unfoldable pub printing_of : Lent → ℕ → ℕ → List Entry → List ℕ → List ℕ → Answer
printing_of l first len entries names rdata = printing_under (judged_of l) first len entries names rdata

-- under a stanza
abbrev pub printing_with : List ℕ → ℕ → ℕ → List Entry → List ℕ → List ℕ → Answer
printing_with stanza first len entries names rdata = printing_of (as_file stanza) first len entries names rdata

-- "an empty catalogue .. stands wherever none is named, now and later"
abbrev pub printing : List ℕ → ℕ → ℕ → List ℕ → Answer
printing stanza first len rdata = printing_with stanza first len [] [] rdata

-- Reading under a judged description, want of room apart. Order: 1; the stanza's; 6; 7; 13, "after 7"; 8 and 9; 10; 11.
abbrev pub reading_under : Judged → ℕ → ℕ → List Entry → List ℕ → List ℕ → List ℕ → Answer
reading_under j first len entries names origin text =
    or_refusal 1 (leb (length text) max_text) (
    of_stanza j (λ ks.
    or_refusal 6 (is_run first len ks) (
    or_refusal 7 (is_wire_name origin) (
    of_catalogue (catalogued names entries) (λ c.
    of_parts (read_run (λ k ts. read_field c k origin ts) (run first len ks) (tokens text)) (λ ps.
    or_refusal 11 (leb (length (flat ps)) max_rdata) (
    done (flat ps))))))))

-- under a description as it is lent
unfoldable pub reading_of : Lent → ℕ → ℕ → List Entry → List ℕ → List ℕ → List ℕ → Answer
reading_of l first len entries names origin text = reading_under (judged_of l) first len entries names origin text

-- under a stanza
abbrev pub reading_with : List ℕ → ℕ → ℕ → List Entry → List ℕ → List ℕ → List ℕ → Answer
reading_with stanza first len entries names origin text = reading_of (as_file stanza) first len entries names origin text

-- with no catalogue
abbrev pub reading : List ℕ → ℕ → ℕ → List ℕ → List ℕ → Answer
reading stanza first len origin text = reading_with stanza first len [] [] origin text

-- 12: "the result is longer than the room"; place: "octets needed"
abbrev pub if_room : ℕ → Answer → Answer
if_room room (done t) = cond (leb (length t) room) (done t) (refusal 12 (length t))
if_room room (refusal n i) = refusal n i

-- "A place past the end means no room there."
abbrev pub room : List ℕ → ℕ → ℕ
room out at = length out - at

-- A call's answer (its number, and the place or the count) and every lent octet afterwards.
pub record Outcome : Type 0 where
  pub number : ℕ
  pub place : ℕ
  pub lent : List ℕ

-- octets stored from a place on
abbrev pub stored : List ℕ → ℕ → List ℕ → List ℕ
stored out at t = take at out ++ t ++ drop (at + length t) out

-- "A refusal returns a number and a place, and no lent octet differs afterwards. Success returns 0 and the octet count .. only that many octets after it change."
abbrev pub outcome : List ℕ → ℕ → Answer → Outcome
outcome out at (done t) = record { number = 0; place = length t; lent = stored out at t }
outcome out at (refusal n i) = record { number = n; place = i; lent = out }

-- printing, with 12, into the lent buffer
unfoldable pub print_of : Lent → ℕ → ℕ → List Entry → List ℕ → List ℕ → List ℕ → ℕ → Outcome
print_of l first len entries names rdata out at = outcome out at (if_room (room out at) (printing_of l first len entries names rdata))

-- under a stanza
abbrev pub print_with : List ℕ → ℕ → ℕ → List Entry → List ℕ → List ℕ → List ℕ → ℕ → Outcome
print_with stanza first len entries names rdata out at = print_of (as_file stanza) first len entries names rdata out at

-- with no catalogue
abbrev pub print : List ℕ → ℕ → ℕ → List ℕ → List ℕ → ℕ → Outcome
print stanza first len rdata out at = print_with stanza first len [] [] rdata out at

-- under a stored description; no catalogue is named
abbrev pub print_stored : List ℕ → ℕ → ℕ → ℕ → List ℕ → List ℕ → ℕ → Outcome
print_stored txt first len edition rdata out at = print_of (as_stored edition txt) first len [] [] rdata out at

-- reading, with 12, into the lent buffer
unfoldable pub read_of : Lent → ℕ → ℕ → List Entry → List ℕ → List ℕ → List ℕ → List ℕ → ℕ → Outcome
read_of l first len entries names origin text out at = outcome out at (if_room (room out at) (reading_of l first len entries names origin text))

-- under a stanza
abbrev pub read_with : List ℕ → ℕ → ℕ → List Entry → List ℕ → List ℕ → List ℕ → List ℕ → ℕ → Outcome
read_with stanza first len entries names origin text out at = read_of (as_file stanza) first len entries names origin text out at

-- with no catalogue
abbrev pub read : List ℕ → ℕ → ℕ → List ℕ → List ℕ → List ℕ → ℕ → Outcome
read stanza first len origin text out at = read_with stanza first len [] [] origin text out at

-- under a stored description
abbrev pub read_stored : List ℕ → ℕ → ℕ → ℕ → List ℕ → List ℕ → List ℕ → ℕ → Outcome
read_stored txt first len edition origin text out at = read_of (as_stored edition txt) first len [] [] origin text out at

-- "for judging alone, the field count"; nothing is lent
abbrev pub judge_outcome : Judged → Outcome
judge_outcome (rejected n i) = record { number = n; place = i; lent = [] }
judge_outcome (described d) = record { number = 0; place = length d.fields; lent = [] }

-- judging alone
unfoldable pub judge_of : Lent → Outcome
judge_of l = judge_outcome (judged_of l)

-- a stanza
abbrev pub judge : List ℕ → Outcome
judge stanza = judge_of (as_file stanza)

-- a stored description
abbrev pub judge_stored : List ℕ → ℕ → Outcome
judge_stored txt edition = judge_of (as_stored edition txt)
