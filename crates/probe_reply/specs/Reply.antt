-- The lines that answer requests.
use Rattle.std.specs.Prelude.{ℕ, min, cond, List, [], ◌++◌, length, take, eqb}
use Prim.Native.Char.{code}
use Rattle.std.specs.Prelude.{Option, None, Some}
use Rattle.format.specs.Octets.{ascii}
use Rattle.format.specs.Entries.{Answer, done, refusal, max_text, printing_of, reading_of, if_room, Outcome, judge_of}
use Rattle.format.specs.Stored.{Lent, as_file, as_stored}
use Rattle.format.specs.Job.{job}
use Rattle.probe_request.specs.Request.{Asked}
use Rattle.probe_request.specs.declared.Request.{Request}
use Rattle.probe_request.specs.declared.Request.TheVariants.{Judge, Print, Read, Job}
use Rattle.probe_reply.specs.Entries.{entries_in}
use Rattle.probe_reply.specs.Replies.{octets_text, judged_line, result_line, unknown_line}

-- "PLACE is the count where NUMBER is 0, and the last word is '-' on a refusal."
abbrev pub answer_line : Answer → List ℕ
answer_line (done t) = result_line 0 (length t) t
answer_line (refusal n i) = result_line n i []

abbrev pub outcome_line : Outcome → List ℕ
outcome_line o = judged_line o.number o.place

-- "LINES are those that the program job writes"
abbrev pub job_line : List ℕ → List ℕ
job_line j = octets_text (job j) ++ ascii "\n"

-- the room for a result, at most that of the longest text
abbrev pub room_of : ℕ → ℕ
room_of n = min n max_text

-- the description that a line lends
abbrev pub lent_in : Asked → Lent
lent_in a = cond a.stored (as_stored a.edition a.stanza) (as_file a.stanza)

-- a line that names no catalogue has an empty one
abbrev pub asked_printing : Asked → Answer
asked_printing a = printing_of (lent_in a) a.first a.many (entries_in a.entries) a.names a.octets

abbrev pub asked_reading : Asked → Answer
asked_reading a = reading_of (lent_in a) a.first a.many (entries_in a.entries) a.names a.origin a.octets

abbrev pub line_of : Asked → List ℕ
line_of a =
    cond (eqb a.letter (code "J")) (outcome_line (judge_of (lent_in a)))
    (cond (eqb a.letter (code "P")) (answer_line (if_room (room_of a.room) (asked_printing a)))
    (cond (eqb a.letter (code "R")) (answer_line (if_room (room_of a.room) (asked_reading a)))
    (cond (eqb a.letter (code "W")) (job_line a.stanza) unknown_line)))

-- "A line that is no request .. answers '?'."
abbrev pub reply_to : Option Asked → List ℕ
reply_to None = unknown_line
reply_to (Some a) = line_of a

-- the octets of a result, which stand at the start of a buffer
abbrev pub result_of : ℕ → ℕ → List ℕ → List ℕ
result_of n i xs = cond (eqb n 0) (take i xs) []

-- a request that one line answers, or none
abbrev pub NoJob : Option Request → Type 0
NoJob None = Unit {0}
NoJob (Some (Judge d)) = Unit {0}
NoJob (Some (Print r)) = Unit {0}
NoJob (Some (Read r)) = Unit {0}
NoJob (Some (Job s)) = ⊥
