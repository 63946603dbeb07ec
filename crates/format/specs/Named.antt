-- Request 3 of document 02, "Type names people know": lines for what no law pins, from the stanza's text to the answer.
use Rattle.std.specs.Prelude.{ℕ, ◌≡◌, List, [], ◌∷◌, map}
use Rattle.format.specs.Octets.{ascii}
use Rattle.format.specs.Catalogue.{Entry}
use Rattle.format.specs.Entries.{Answer, done, refusal, printing_with, reading_with}
use Rattle.format.specs.Settled.{unhex, one_field, root}
use Prim.Native.String.{String}

-- an entry: its type number, and where its name starts and how long it is in the lent text
abbrev pub entry : ℕ → ℕ → ℕ → Entry
entry n start size = record { type_no = n; start = start; size = size }

-- printing RDATA, or reading a text, with the one field of a stanza, these entries and this lent text
abbrev pub printed : String → List Entry → String → String → Answer
printed field es names rdata = printing_with (one_field field) 1 1 es (ascii names) (unhex rdata)

abbrev pub read_back : String → List Entry → String → String → Answer
read_back field es names text = reading_with (one_field field) 1 1 es (ascii names) root (ascii text)

-- A line: what is asked by the definitions, and the answer.
pub record NamedLine : Type 0 where
  pub asked : Answer
  pub answer : Answer

abbrev pub is : Answer → Answer → NamedLine
is a b = record { asked = a; answer = b }

-- the lines
abbrev pub named_lines : List NamedLine
named_lines =
    -- "print the name if the entry exists", as it is spelled; "read either form, ignoring case"
    is (printed "R" (entry 28 0 4 ∷ []) "aAaA" "001C") (done (ascii "aAaA")) ∷
    is (read_back "R[L]" (entry 1 0 1 ∷ entry 15 1 2 ∷ []) "AMX" "mX type1 a") (done (unhex "00024001")) ∷
    -- "none is `TYPE` and one or more digits": whatever the digits; `TYPE` alone is a name
    is (read_back "R" (entry 5 0 4 ∷ []) "TYPE" "type") (done (unhex "0005")) ∷
    is (printed "R" (entry 5 0 9 ∷ []) "TYPE65536" "0005") (refusal 13 1) ∷
    -- "within 0 to 65,535"
    is (printed "R" (entry 65535 0 1 ∷ []) "A" "FFFF") (done (ascii "A")) ∷
    is (printed "R" (entry 65536 0 1 ∷ []) "A" "0005") (refusal 13 1) ∷
    -- "strictly rising by number"; "ignoring case, they are distinct": the later entry is the bad one
    is (printed "R" (entry 2 0 1 ∷ entry 2 1 1 ∷ []) "ab" "0005") (refusal 13 2) ∷
    is (printed "R" (entry 1 0 1 ∷ entry 2 1 1 ∷ []) "aA" "0005") (refusal 13 2) ∷
    -- "where its name lies in a lent text": in it, and parts may overlap
    is (printed "R" (entry 1 0 2 ∷ []) "A" "0005") (refusal 13 1) ∷
    is (printed "R" (entry 1 0 2 ∷ entry 2 1 2 ∷ []) "abc" "0002") (done (ascii "bc")) ∷
    -- it is judged where no field needs it, and before the fields
    is (printed "I1" (entry 1 0 1 ∷ []) "?" "") (refusal 13 1) ∷ []

-- the lines hold of the definitions
abbrev pub NamedLines : Type 0
NamedLines = map (λ (l : NamedLine). l.asked) named_lines ≡ map (λ (l : NamedLine). l.answer) named_lines
