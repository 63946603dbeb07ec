-- What the code's answers mean, by the definitions of requests.
use Rattle.std.specs.Prelude.{ℕ, ◌+◌, ◌*◌, ◌≤◌, ◌≡◌, Bool, true, false, List, [], ◌∷◌, length}
use Prim.Native.Char.{code}
use Rattle.std.specs.Prelude.{Option, None, Some}
use Rattle.std.proofs.Math.Seq.{slice}
use Rattle.format.specs.Lists.{◌>>=◌}
use Rattle.format.specs.Octets.{split_on}
use Rattle.buffer.specs.Writing.{Wrote}
use Rattle.probe_request.specs.Request.{octets_of, Said, said, Asked, edition_word, catalogue_words, marks_stored, by_letter, of_words}
use Rattle.probe_request.specs.declared.Span.{Span}
use Rattle.probe_request.specs.declared.Description.{Description}
use Rattle.probe_request.specs.declared.Catalogue.{Catalogue}
use Rattle.probe_request.specs.declared.Run.{Run}
use Rattle.probe_request.specs.declared.Request.{Request}
use Rattle.probe_request.specs.declared.Request.TheVariants.{Judge, Print, Read, Job}
use Rattle.probe_request.specs.declared.Mark.{Mark}
use Rattle.probe_request.specs.declared.Mark.TheVariants.{Space, Catalogue as Named, Stored}

-- a part of a buffer of n octets
pub record Inside (n : ℕ) (s : Span) : Type 0 where
  pub ordered : s.from ≤ s.to
  pub within : s.to ≤ n

abbrev pub text_at : List ℕ → Span → List ℕ
text_at xs s = slice s.from s.to xs

-- a stored description has an edition, and no other has
abbrev pub stored_by : Option ℕ → Bool
stored_by None = false
stored_by (Some e) = true

abbrev pub edition_by : Option ℕ → ℕ
edition_by None = 0
edition_by (Some e) = e

-- a stored description has no catalogue beside it
pub record Alone (r : Run) : Type 0 where
  pub entries : r.catalogue.entries.from ≡ r.catalogue.entries.to
  pub names : r.catalogue.names.from ≡ r.catalogue.names.to

-- every text of a run lies in a buffer of n octets
pub record RunWithin (n : ℕ) (r : Run) : Type 0 where
  pub text : Inside n r.lent.text
  pub entries : Inside n r.catalogue.entries
  pub names : Inside n r.catalogue.names
  pub origin : Inside n r.origin
  pub octets : Inside n r.octets
  pub alone : stored_by r.lent.edition ≡ true → Alone r

-- and every text of a request
abbrev pub Within : ℕ → Request → Type 0
Within n (Judge d) = Inside n d.text
Within n (Print r) = RunWithin n r
Within n (Read r) = RunWithin n r
Within n (Job s) = Inside n s

-- A request whose texts stand in a buffer, by its letter.
abbrev pub whole_named : ℕ → Description → List ℕ → Asked
whole_named x d xs = record {
  letter = x;
  stored = stored_by d.edition;
  stanza = text_at xs d.text;
  edition = edition_by d.edition;
  first = 0;
  many = 0;
  entries = [];
  names = [];
  origin = [];
  octets = [];
  room = 0;
}

abbrev pub run_named : ℕ → Run → List ℕ → Asked
run_named x r xs = record {
  letter = x;
  stored = stored_by r.lent.edition;
  stanza = text_at xs r.lent.text;
  edition = edition_by r.lent.edition;
  first = r.first;
  many = r.many;
  entries = text_at xs r.catalogue.entries;
  names = text_at xs r.catalogue.names;
  origin = text_at xs r.origin;
  octets = text_at xs r.octets;
  room = r.room;
}

-- a job is no description, and has no edition
abbrev pub in_file : Span → Description
in_file s = record { text = s; edition = None }

abbrev pub named : Request → List ℕ → Asked
named (Judge d) xs = whole_named (code "J") d xs
named (Print r) xs = run_named (code "P") r xs
named (Read r) xs = run_named (code "R") r xs
named (Job s) xs = whole_named (code "W") (in_file s) xs

-- what is named, if anything is
abbrev pub asked : Option Request → List ℕ → Option Asked
asked o xs = o >>= λ r. Some (named r xs)

abbrev pub whole_asked : ℕ → Option Description → List ℕ → Option Asked
whole_asked x o xs = o >>= λ d. Some (whole_named x d xs)

abbrev pub job_asked : Option Span → List ℕ → Option Asked
job_asked o xs = o >>= λ s. Some (whole_named (code "W") (in_file s) xs)

abbrev pub run_asked : ℕ → Option Run → List ℕ → Option Asked
run_asked x o xs = o >>= λ r. Some (run_named x r xs)

-- the octet of a mark
abbrev pub code_of : Mark → ℕ
code_of Space = code " "
code_of Named = code "C"
code_of Stored = code "S"

-- The words in what follows a word: nothing, or a space and the next words.
abbrev pub words_of : List ℕ → List (List ℕ)
words_of [] = []
words_of (x ∷ t) = split_on (code " ") t

-- the first of them, and what follows it
pub record NextWord (rest word later : List ℕ) : Type 0 where
  pub words : words_of rest ≡ word ∷ words_of later
  pub octets : length rest ≡ 1 + length word + length later

-- a value is said, and what follows it is left
pub record Says {A : Type 0} (o : Option (Said A)) (rest : List ℕ) (v : A) (later : List ℕ) : Type 0 where
  pub reads : o ≡ Some (record { value = v; later = words_of later })
  pub shorter : length later ≤ length rest

-- Octets are said: they stand from n on.
pub record Spells (o : Option (Said (List ℕ))) (rest : List ℕ) (before after : List ℕ) (n to : ℕ) (later : List ℕ) : Type 0 where
  pub octets : List ℕ
  pub reads : o ≡ Some (record { value = octets; later = words_of later })
  pub wrote : Wrote before after n to octets
  pub fits : 2 * to + length later ≤ 2 * n + length rest

-- a description, and its edition
pub record Lent : Type 0 where
  pub stanza : List ℕ
  pub edition : ℕ

abbrev pub description_words : ℕ → List (List ℕ) → Option (Said Lent)
description_words mark ws = do
  s ← said octets_of ws
  e ← edition_word mark s.later
  Some (record { value = record { stanza = s.value; edition = e.value }; later = e.later })

-- a description is said: it stands at the start of the buffer
pub record Described (mark : ℕ) (rest : List ℕ) (before after : List ℕ) (d : Description) (later : List ℕ) : Type 0 where
  pub octets : List ℕ
  pub reads : description_words mark (words_of rest) ≡ Some (record { value = record { stanza = octets; edition = edition_by d.edition }; later = words_of later })
  pub stored : stored_by d.edition ≡ marks_stored mark
  pub start : d.text.from ≡ 0
  pub wrote : Wrote before after 0 d.text.to octets
  pub fits : 2 * d.text.to + length later ≤ length rest

-- A catalogue is said, or none is named: its entries stand from n on, and its names after them.
pub record Lists (mark : ℕ) (rest : List ℕ) (before after : List ℕ) (n : ℕ) (c : Catalogue) (later : List ℕ) : Type 0 where
  pub entries : List ℕ
  pub names : List ℕ
  pub between : List ℕ
  pub reads : catalogue_words mark (words_of rest) ≡ Some (record { value = record { entries = entries; names = names }; later = words_of later })
  pub start : c.entries.from ≡ n
  pub middle : c.names.from ≡ c.entries.to
  pub wrote_entries : Wrote before between n c.entries.to entries
  pub wrote_names : Wrote between after c.entries.to c.names.to names
  pub fits : 2 * c.names.to + length later ≤ 2 * n + length rest
  pub none : marks_stored mark ≡ true → (entries ≡ []) × (names ≡ [])

-- A line has a letter, a mark and a space, and then the words.
pub record Begins (line : List ℕ) (x : ℕ) (m : Mark) (rest : List ℕ) : Type 0 where
  pub reads : of_words (split_on (code " ") line) ≡ by_letter (code_of m) x (words_of rest)
  pub shorter : length rest ≤ length line
