-- The line that tells a fault.
use Rattle.std.specs.Prelude.{ℕ, List, [], ◌++◌, Option, None, Some}
use Rattle.format.specs.Octets.{ascii}
use Rattle.format.specs.Number.{decimal}
use Rattle.job_fault.specs.declared.reason.Reason.{Reason}
use Rattle.job_fault.specs.declared.reason.Reason.TheVariants.{TooLong, NoCount, ByteOrderMark, CarriageReturn, NotCount, TooFew, NotOneLine, NoLastDot, NotName, LineAfter}
use Rattle.job_fault.specs.declared.fault.Fault.{Fault}

-- why, in words
abbrev pub reason_words : Reason → List ℕ
reason_words TooLong = ascii "it has more than 65,535 octets"
reason_words NoCount = ascii "the job ends where a line count should stand"
reason_words ByteOrderMark = ascii "a byte order mark stands before the line count; save the job without it"
reason_words CarriageReturn = ascii "the line ends in CR; save the job with LF line ends"
reason_words NotCount = ascii "a line count should stand here, 1 to 10 digits alone"
reason_words TooFew = ascii "the line count is larger than the number of lines that follow"
reason_words NotOneLine = ascii "the line count of the origin is not 1"
reason_words NoLastDot = ascii "the origin lacks its last dot"
reason_words NotName = ascii "the origin is not one absolute name"
reason_words LineAfter = ascii "nothing may follow the last section"

-- where: nothing is said of no line
abbrev pub line_words : Option ℕ → List ℕ
line_words None = []
line_words (Some k) = ascii "line " ++ decimal k ++ ascii ": "

-- one line, or nothing if there is no fault
abbrev pub fault_words : Option Fault → List ℕ
fault_words None = []
fault_words (Some f) = ascii "job: " ++ line_words f.line ++ reason_words f.reason ++ ascii "\n"
