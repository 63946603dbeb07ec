-- The answers of the public entries, by the definitions of document 01.
use Rattle.std.specs.Prelude.{ℕ, ◌/◌, ◌%◌, ◌≤◌, ◌≡◌, List, length, leb}
use Rattle.format.specs.Lists.{flat}
use Rattle.format.specs.Field.{Kind}
use Rattle.format.specs.Token.{tokens}
use Rattle.format.specs.Catalogue.{Entry, TypeName}
use Rattle.format.specs.Run.{shown, read_field, Parts, parts, parts_of, max_rdata, text_of_parts, read_run}
use Rattle.format.specs.Entries.{Answer, done, or_refusal, of_parts, if_room, room, Outcome, outcome, print, print_of, print_with, print_stored, read, read_of, read_with, read_stored, judge, judge_stored}
use Rattle.format.specs.Stored.{Lent}
use Rattle.entry.specs.declared.Reply.{Reply}

-- an answer has the outcome's number, and its place or count
pub record Replies (r : Reply) (o : Outcome) : Type 0 where
  pub numbers : r.number ≡ o.number
  pub places : r.place ≡ o.place

-- the same, and the lent octets are afterwards those of the outcome
pub record Leaves (r : Reply) (after : List ℕ) (o : Outcome) : Type 0 where
  pub numbers : r.number ≡ o.number
  pub places : r.place ≡ o.place
  pub octets : after ≡ o.lent

-- What the entries promise of their answer and of every lent octet: the outcome of the definition of the same name.
abbrev pub JudgePromise : List ℕ → Reply → Type 0
JudgePromise stanza r = Replies r (judge stanza)

abbrev pub PrintPromise : (stanza : List ℕ) (first many : ℕ) (rdata out : List ℕ) (at : ℕ) → Reply → List ℕ → Type 0
PrintPromise stanza first many rdata out at r after = Leaves r after (print stanza first many rdata out at)

abbrev pub ReadPromise : (stanza : List ℕ) (first many : ℕ) (origin text out : List ℕ) (at : ℕ) → Reply → List ℕ → Type 0
ReadPromise stanza first many origin text out at r after = Leaves r after (read stanza first many origin text out at)

-- the same with a catalogue
abbrev pub PrintWithPromise : (stanza : List ℕ) (first many : ℕ) (entries : List Entry) (names rdata out : List ℕ) (at : ℕ) → Reply → List ℕ → Type 0
PrintWithPromise stanza first many entries names rdata out at r after = Leaves r after (print_with stanza first many entries names rdata out at)

abbrev pub ReadWithPromise : (stanza : List ℕ) (first many : ℕ) (entries : List Entry) (names origin text out : List ℕ) (at : ℕ) → Reply → List ℕ → Type 0
ReadWithPromise stanza first many entries names origin text out at r after = Leaves r after (read_with stanza first many entries names origin text out at)

-- the same of a stored description (document 02, 4), with the edition that the caller names
abbrev pub JudgeStoredPromise : (txt : List ℕ) (edition : ℕ) → Reply → Type 0
JudgeStoredPromise txt edition r = Replies r (judge_stored txt edition)

abbrev pub PrintStoredPromise : (txt : List ℕ) (first many edition : ℕ) (rdata out : List ℕ) (at : ℕ) → Reply → List ℕ → Type 0
PrintStoredPromise txt first many edition rdata out at r after = Leaves r after (print_stored txt first many edition rdata out at)

abbrev pub ReadStoredPromise : (txt : List ℕ) (first many edition : ℕ) (origin text out : List ℕ) (at : ℕ) → Reply → List ℕ → Type 0
ReadStoredPromise txt first many edition origin text out at r after = Leaves r after (read_stored txt first many edition origin text out at)

-- all these at once: of a description however it is lent, with a catalogue
abbrev pub PrintOfPromise : (l : Lent) (first many : ℕ) (entries : List Entry) (names rdata out : List ℕ) (at : ℕ) → Reply → List ℕ → Type 0
PrintOfPromise l first many entries names rdata out at r after = Leaves r after (print_of l first many entries names rdata out at)

abbrev pub ReadOfPromise : (l : Lent) (first many : ℕ) (entries : List Entry) (names origin text out : List ℕ) (at : ℕ) → Reply → List ℕ → Type 0
ReadOfPromise l first many entries names origin text out at r after = Leaves r after (read_of l first many entries names origin text out at)

-- the answer in 64 bits: its number in the upper 32, its place or count in the lower
abbrev pub unpacked : ℕ → Reply
unpacked r = record { number = r / 4294967296; place = r % 4294967296 }

-- the outcome of an answer, given the room from a place on
abbrev pub with_room : List ℕ → ℕ → Answer → Outcome
with_room out at a = outcome out at (if_room (room out at) a)

-- the text of a run, with the names of types that are known, whatever the room is
abbrev pub run_text : List TypeName → List Kind → List ℕ → Answer
run_text c ks xs = of_parts (parts_of ks xs) (λ ps. done (text_of_parts (shown c) ks ps))

-- the octets of each field of a run, read from a text
abbrev pub run_parts : List TypeName → List Kind → List ℕ → List ℕ → Parts
run_parts c ks origin text = read_run (λ k ts. read_field c k origin ts) ks (tokens text)

-- the octets that a run reads from a text, or 11, whatever the room is
abbrev pub run_octets : List TypeName → List Kind → List ℕ → List ℕ → Answer
run_octets c ks origin text = of_parts (run_parts c ks origin text) (λ ps. or_refusal 11 (leb (length (flat ps)) max_rdata) (done (flat ps)))

-- a run reads a text, and there is room for its octets
pub record ReadsIn (c : List TypeName) (ks : List Kind) (origin text : List ℕ) (room : ℕ) : Type 0 where
  pub fields : List (List ℕ)
  pub reads : run_parts c ks origin text ≡ parts fields
  pub short : length (flat fields) ≤ max_rdata
  pub fits : length (flat fields) ≤ room
