-- The program: "a job of at most 65,535 octets from standard input, sections in a fixed order, each after its line count".
use Rattle.std.specs.Prelude.{ℕ, cond, List, [], ◌∷◌, ◌++◌, length, take, drop, leb}
use Rattle.std.specs.Prelude.{Option, None, Some}
use Rattle.format.specs.Lists.{◌>>=◌, provided, null, flat_map}
use Rattle.format.specs.Octets.{ascii, same_octets}
use Rattle.format.specs.Number.{decimal, decimal_of}
use Rattle.format.specs.Token.{Token, tokens}
use Rattle.format.specs.Name.{name_of}
use Rattle.format.specs.Hex.{hex_text}
use Rattle.format.specs.Lines.{lines_of}
use Rattle.format.specs.Judge.{Judged, rejected, described, judged}
use Rattle.format.specs.Run.{bare_of}
use Rattle.format.specs.Entries.{Answer, done, refusal, reading}

-- A section's lines, and the lines after it.
pub record Section : Type 0 where
  pub body : List (List ℕ)
  pub later : List (List ℕ)

-- "each after its line count"
abbrev pub section : List (List ℕ) → Option Section
section [] = None
section (c ∷ ls) = decimal_of c >>= λ n. provided (leb n (length ls)) (record { body = take n ls; later = drop n ls })

-- "origin (one absolute name)": the line is that name's text and nothing else
abbrev pub origin_token : List ℕ → List Token → Option (List ℕ)
origin_token l [] = None
origin_token l (t ∷ ts) = bare_of t >>= λ u. cond (same_octets u l) (name_of None u) None

-- the section of the origin has one line
abbrev pub origin_of : List (List ℕ) → Option (List ℕ)
origin_of [] = None
origin_of (l ∷ []) = origin_token l (tokens l)
origin_of (l ∷ m ∷ ls) = None

-- A job: the stanza's octets, the origin and the records.
pub record Job : Type 0 where
  pub stanza : List ℕ
  pub origin : List ℕ
  pub records : List (List ℕ)

-- lines, each with its LF
abbrev pub ended : List (List ℕ) → List ℕ
ended ls = flat_map (λ l. l ++ ascii "\n") ls

-- "stanza, origin (one absolute name), records. Nothing follows the last section"
abbrev pub job_of : List ℕ → Option Job
job_of xs = do
  s ← section (lines_of xs)
  o ← section s.later
  r ← section o.later
  origin ← origin_of o.body
  provided (null r.later) (record { stanza = ended s.body; origin = origin; records = r.body })

-- "One line per record comes out; no octets give `ok` alone."
abbrev pub answer_line : Answer → List ℕ
answer_line (done []) = ascii "ok\n"
answer_line (done (x ∷ xs)) = ascii "ok " ++ hex_text (x ∷ xs) ++ ascii "\n"
answer_line (refusal n i) = ascii "no " ++ decimal n ++ ascii " " ++ decimal i ++ ascii "\n"

-- all the fields; 0 of a refused stanza
abbrev pub field_count : Judged → ℕ
field_count (rejected n i) = 0
field_count (described d) = length d.fields

-- every record is read under all the fields; "a refused stanza is reported at each record"
abbrev pub record_line : Job → List ℕ → List ℕ
record_line j t = answer_line (reading j.stanza 1 (field_count (judged j.stanza)) j.origin t)

-- "A job that breaks this writes only `bad job`"
abbrev pub written : Option Job → List ℕ
written None = ascii "bad job\n"
written (Some j) = flat_map (record_line j) j.records

-- "a job of at most 65,535 octets"
abbrev pub max_job : ℕ
max_job = 65535

-- what the program writes
unfoldable pub job : List ℕ → List ℕ
job xs = cond (leb (length xs) max_job) (written (job_of xs)) (ascii "bad job\n")
