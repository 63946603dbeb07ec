-- The request lines of the program probe: a letter, which C follows where a catalogue may be named, and S where a description is lent as the DNS
-- stores it; and then the words, with one space between them.
--     J STANZA
--     JC STANZA
--     JS TXT EDITION
--     P STANZA FIRST LENGTH RDATA ROOM
--     PC STANZA FIRST LENGTH CATALOGUE NAMES RDATA ROOM
--     PS TXT EDITION FIRST LENGTH RDATA ROOM
--     R STANZA FIRST LENGTH ORIGIN TEXT ROOM
--     RC STANZA FIRST LENGTH CATALOGUE NAMES ORIGIN TEXT ROOM
--     RS TXT EDITION FIRST LENGTH ORIGIN TEXT ROOM
--     W JOB
use Rattle.std.specs.Prelude.{ℕ, ◌^◌, ◌%◌, Bool, cond, List, [], ◌∷◌, length, leb, eqb}
use Prim.Native.Char.{code}
use Rattle.std.specs.Prelude.{Option, None, Some}
use Rattle.format.specs.Lists.{◌>>=◌, provided, each_of, null}
use Rattle.format.specs.Octets.{ascii, among, split_on}
use Rattle.format.specs.Digits.{number, digit_value}
use Rattle.format.specs.Number.{below}
use Rattle.format.specs.Hex.{from_hex}

-- "Octets are in hex of either case, '-' for none"
abbrev pub octets_of : List ℕ → Option (List ℕ)
octets_of [] = None
octets_of (x ∷ []) = provided (eqb x (code "-")) []
octets_of (x ∷ y ∷ t) = from_hex (x ∷ y ∷ t)

-- "numbers decimal, of at most 64 bits"
abbrev pub number_of : List ℕ → Option ℕ
number_of [] = None
number_of (x ∷ t) = below (2 ^ 64) (each_of (digit_value 10) (x ∷ t) >>= λ ds. Some (number 10 ds))

-- What a word says, and the words after it.
pub record Said (A : Type 0) : Type 0 where
  pub value : A
  pub later : List (List ℕ)

-- what the first word says; there must be one
abbrev pub said : {A : Type 0} → (List ℕ → Option A) → List (List ℕ) → Option (Said A)
said f [] = None
said f (w ∷ ws) = f w >>= λ v. Some (record { value = v; later = ws })

-- A request, by its letter. What it does not name is empty or 0, and so is a catalogue: a request does not tell P from PC. TXT and a job stand in
-- the place of a stanza; the entries are the octets of CATALOGUE.
pub record Asked : Type 0 where
  pub letter : ℕ
  pub stored : Bool
  pub stanza : List ℕ
  pub edition : ℕ
  pub first : ℕ
  pub many : ℕ
  pub entries : List ℕ
  pub names : List ℕ
  pub origin : List ℕ
  pub octets : List ℕ
  pub room : ℕ

-- The mark of a line is the octet after its letter. One of these, or the space, where the letter stands alone:
abbrev pub marks : List ℕ
marks = ascii "CS"

-- S: the description is stored
abbrev pub marks_stored : ℕ → Bool
marks_stored mark = eqb mark (code "S")

-- only JS, PS and RS name an edition
abbrev pub edition_word : ℕ → List (List ℕ) → Option (Said ℕ)
edition_word mark ws = cond (marks_stored mark) (said number_of ws) (Some (record { value = 0; later = ws }))

-- J, JC, JS and W
abbrev pub whole_words : ℕ → ℕ → List (List ℕ) → Option Asked
whole_words mark x ws = do
  s ← said octets_of ws
  e ← edition_word mark s.later
  provided (null e.later) (record {
    letter = x;
    stored = marks_stored mark;
    stanza = s.value;
    edition = e.value;
    first = 0;
    many = 0;
    entries = [];
    names = [];
    origin = [];
    octets = [];
    room = 0;
  })

-- A catalogue as it is lent.
pub record Catalogue : Type 0 where
  pub entries : List ℕ
  pub names : List ℕ

-- "entries of 8 octets": "a tail of fewer than 8 octets makes the line no request"
abbrev pub whole_catalogue : List (List ℕ) → Option (Said Catalogue)
whole_catalogue ws = do
  e ← said octets_of ws
  n ← said octets_of e.later
  provided (eqb (length e.value % 8) 0) (record { value = record { entries = e.value; names = n.value }; later = n.later })

-- only PC and RC name one
abbrev pub catalogue_words : ℕ → List (List ℕ) → Option (Said Catalogue)
catalogue_words mark ws = cond (eqb mark (code "C")) (whole_catalogue ws) (Some (record { value = record { entries = []; names = [] }; later = ws }))

-- only R, RC and RS have an origin
abbrev pub origin_word : ℕ → List (List ℕ) → Option (Said (List ℕ))
origin_word x ws = cond (eqb x (code "R")) (said octets_of ws) (Some (record { value = []; later = ws }))

-- P and R, PC and RC, PS and RS
abbrev pub run_words : ℕ → ℕ → List (List ℕ) → Option Asked
run_words mark x ws = do
  s ← said octets_of ws
  e ← edition_word mark s.later
  f ← said number_of e.later
  m ← said number_of f.later
  c ← catalogue_words mark m.later
  o ← origin_word x c.later
  t ← said octets_of o.later
  r ← said number_of t.later
  provided (null r.later) (record {
    letter = x;
    stored = marks_stored mark;
    stanza = s.value;
    edition = e.value;
    first = f.value;
    many = m.value;
    entries = c.value.entries;
    names = c.value.names;
    origin = o.value;
    octets = t.value;
    room = r.value;
  })

-- the letters of lines about the whole of what is lent; W has no mark
abbrev pub whole_letters : ℕ → List ℕ
whole_letters mark = cond (eqb mark (code " ")) (ascii "JW") (ascii "J")

abbrev pub by_letter : ℕ → ℕ → List (List ℕ) → Option Asked
by_letter mark x ws = cond (among x (whole_letters mark)) (whole_words mark x ws) (cond (among x (ascii "PR")) (run_words mark x ws) None)

abbrev pub of_words : List (List ℕ) → Option Asked
of_words [] = None
of_words ([] ∷ ws) = None
of_words ((x ∷ []) ∷ ws) = by_letter (code " ") x ws
of_words ((x ∷ y ∷ []) ∷ ws) = cond (among y marks) (by_letter y x ws) None
of_words ((x ∷ y ∷ z ∷ t) ∷ ws) = None

-- A line "that is no request, or has more than 2,200,000 octets", is none.
unfoldable pub request_of : List ℕ → Option Asked
request_of l = cond (leb (length l) 2200000) (of_words (split_on (code " ") l)) None
