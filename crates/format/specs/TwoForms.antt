-- Document 02, 4: the law of the two forms of a description. The same strings, stored and as the lines of a file, are one description.
use Rattle.std.specs.Prelude.{ℕ, zero, suc, ◌+◌, ◌≤◌, ◌<◌, ◌≡◌, Bool, true, false, not, cond, ◌&&◌, List, [], ◌∷◌, map, length, take, drop, leb}
use Rattle.format.specs.Lists.{any_of, all_of, flat_map, span}
use Rattle.format.specs.Octets.{Octets, among, blank, same_octets}
use Rattle.format.specs.Field.{Part, Symbol, Kind, int, rrtype, bitmap, a4, aa, aaaa, name, str, strs, raw, b32, b64, hex, hexc, eui, time, Field}
use Rattle.format.specs.Text.{pieces, with_count}
use Rattle.format.specs.Lines.{placed, lines_of, lines}
use Rattle.format.specs.Grammar.{Header}
use Rattle.format.specs.Catalogue.{Entry}
use Rattle.format.specs.Judge.{Description, Progress, before_header, faulty, ignored, line_verdict, Judged, rejected, described, judged_from, max_stanza, judged}
use Rattle.format.specs.Stored.{strings_in, tag, stored_lines, judged_stored}
use Rattle.format.specs.Entries.{printing_under, reading_under}
use Rattle.format.specs.Job.{ended}

-- "equal descriptions": the same octets, numbers and kinds; only the places of the parts are those of either form.
abbrev pub unplaced : Part → Part
unplaced p = record { place = 0; octets = p.octets }

-- a symbol
abbrev pub unplaced_symbol : Symbol → Symbol
unplaced_symbol s = record { spelling = unplaced s.spelling; value = s.value }

-- a kind: only symbols have places
abbrev pub unplaced_kind : Kind → Kind
unplaced_kind (int w l) = int w (map unplaced_symbol l)
unplaced_kind rrtype = rrtype
unplaced_kind bitmap = bitmap
unplaced_kind a4 = a4
unplaced_kind aa = aa
unplaced_kind aaaa = aaaa
unplaced_kind (name m) = name m
unplaced_kind str = str
unplaced_kind strs = strs
unplaced_kind raw = raw
unplaced_kind b32 = b32
unplaced_kind b64 = b64
unplaced_kind hex = hex
unplaced_kind hexc = hexc
unplaced_kind (eui w) = eui w
unplaced_kind time = time

-- a field
abbrev pub unplaced_field : Field → Field
unplaced_field f = record { kind = unplaced_kind f.kind; field_name = unplaced f.field_name; free_text = unplaced f.free_text }

-- the header
abbrev pub unplaced_header : Header → Header
unplaced_header h = record { type_name = unplaced h.type_name; type_no = h.type_no; header_text = unplaced h.header_text }

-- a description
abbrev pub unplaced_description : Description → Description
unplaced_description d = record { header = unplaced_header d.header; fields = map unplaced_field d.fields }

-- what a judge answers
abbrev pub without_places : Judged → Judged
without_places (rejected n i) = rejected n i
without_places (described d) = described (unplaced_description d)

-- "line numbers in refusals one apart"; 0 is no line number
abbrev pub numbers_on : ℕ → Judged → Judged
numbers_on n (rejected m zero) = rejected m zero
numbers_on n (rejected m (suc i)) = rejected m (n + suc i)
numbers_on n (described d) = described d

-- "whole strings with no LF and no blank at the start"
abbrev pub starts_blank : List ℕ → Bool
starts_blank [] = false
starts_blank (x ∷ t) = blank x

-- and of at most 255 octets, as its count says
abbrev pub storable : List ℕ → Bool
storable t = leb (length t) 255 && not (among 10 t) && not (starts_blank t)

-- "Any other string starting with a blank breaks the grammar.": other than those that are ignored
abbrev pub BlankStart : Type 0
BlankStart = (s : Progress) (l : Part) → starts_blank l.octets ≡ true → ignored (span blank l.octets).rest ≡ false → line_verdict false s l ≡ faulty 2

-- "the file form has them as its lines, one space before each after the header": the header is the first that is not ignored
abbrev pub file_lines : List (List ℕ) → List (List ℕ)
file_lines [] = []
file_lines (l ∷ ls) = l ∷ cond (ignored l) (file_lines ls) (map (λ t. 32 ∷ t) ls)

-- the file
abbrev pub file_of : List (List ℕ) → List ℕ
file_of ls = ended (file_lines ls)

-- counted strings
abbrev pub txt_of : List (List ℕ) → List ℕ
txt_of ls = flat_map with_count ls

-- "they must give equal descriptions, and every conversion equal results, line numbers in refusals one apart": n apart
pub record SameForms (n : ℕ) (file strings : Judged) : Type 0 where
  pub description : without_places strings ≡ numbers_on n (without_places file)
  pub prints : (first len : ℕ) (es : List Entry) (names rdata : List ℕ) → printing_under strings first len es names rdata ≡ printing_under (numbers_on n file) first len es names rdata
  pub reads : (first len : ℕ) (es : List Entry) (names origin text : List ℕ) → reading_under strings first len es names origin text ≡ reading_under (numbers_on n file) first len es names origin text

-- the lines from string n + 1 on, wherever they begin
abbrev pub SharedLines : Type 0
SharedLines = (n at : ℕ) (ls : List (List ℕ)) → all_of storable ls ≡ true → SameForms n (judged_from true 1 before_header (lines (file_of ls))) (stored_lines (suc n) (placed at ls))

-- "Where both forms are at most 8,192 octets"
abbrev pub StoredForm : Type 0
StoredForm = (ls : List (List ℕ)) → all_of storable ls ≡ true → length (txt_of (tag ∷ ls)) ≤ max_stanza → length (file_of ls) ≤ max_stanza
    → SameForms 1 (judged (file_of ls)) (judged_stored 13 (txt_of (tag ∷ ls)))

-- "It is counted strings": each stands in the TXT data at its place
abbrev pub StringsStand : Type 0
StringsStand = (txt : List ℕ) → map (λ (p : Part). take (length p.octets) (drop p.place txt)) (strings_in txt) ≡ pieces txt

-- a line "after its leading blanks"
abbrev pub unindented : List ℕ → List ℕ
unindented t = (span blank t).rest

-- "a file line over 255 octets after its leading blanks has no stored form": it is no string of any TXT data
abbrev pub NoStoredForm : Type 0
NoStoredForm = (t : List ℕ) → 255 < length (unindented t) → (txt : List ℕ) → Octets txt → any_of (same_octets (unindented t)) (pieces txt) ≡ false

-- a file's lines as strings: "stanza lines without leading blanks"
abbrev pub strings_of : List ℕ → List (List ℕ)
strings_of file = map unindented (lines_of file)

-- "they must give equal descriptions, and every conversion equal results", from the file's side: of every accepted file whose lines have a
-- stored form. (A refused one need not: a header after a blank is 2 in a file, and stored it has no blank before it.)
abbrev pub StoredOfFile : Type 0
StoredOfFile = (file : List ℕ) (d : Description) → judged file ≡ described d → all_of (λ t. leb (length t) 255) (strings_of file) ≡ true
    → length (txt_of (tag ∷ strings_of file)) ≤ max_stanza → SameForms 1 (judged file) (judged_stored 13 (txt_of (tag ∷ strings_of file)))
