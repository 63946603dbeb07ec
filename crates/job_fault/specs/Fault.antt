-- The first fault of a job's form, as a reader from the first line to the last meets it: the number of its line, from 1, and why.
-- There is no number if no line is at fault. What is wrong within the stanza is no fault of the form.
use Rattle.std.specs.Prelude.{ℕ, ◌+◌, ◌-◌, ◌≡◌, ◌↔◌, Bool, cond, ◌&&◌, List, [], ◌∷◌, ◌++◌, leb, eqb, length, take, drop}
use Rattle.std.specs.Prelude.{Option, None, Some}
use Rattle.format.specs.Lists.{null}
use Rattle.format.specs.Octets.{ascii, same_octets}
use Rattle.format.specs.Number.{decimal_of}
use Rattle.format.specs.Lines.{lines_of}
use Rattle.format.specs.Job.{Section, section, origin_of, Job, max_job}
use Rattle.job_form.specs.Form.{job_within}
use Rattle.job_fault.specs.declared.reason.Reason.{Reason}
use Rattle.job_fault.specs.declared.reason.Reason.TheVariants.{TooLong, NoCount, ByteOrderMark, CarriageReturn, NotCount, TooFew, NotOneLine, NoLastDot, NotName, LineAfter}
use Rattle.job_fault.specs.declared.fault.Fault.{Fault}

-- the fault of line k
abbrev pub at_line : ℕ → Reason → Option Fault
at_line k r = Some (record { line = Some k; reason = r })

-- what is made of a value; or the other, if there is none
abbrev pub given : {A B : Type 0} → Option A → B → (A → B) → B
given None other f = other
given (Some x) other f = f x

-- the byte order mark begins the line, and it is the first
abbrev pub marked : ℕ → List ℕ → Bool
marked k t = eqb k 1 && same_octets (take 3 t) (0xEF ∷ 0xBB ∷ 0xBF ∷ [])

-- the line ends in CR
abbrev pub returned : List ℕ → Bool
returned t = same_octets (drop (length t - 1) t) (13 ∷ [])

-- why line k is no line count
abbrev pub count_reason : ℕ → List ℕ → Reason
count_reason k t = cond (marked k t) ByteOrderMark (cond (returned t) CarriageReturn NotCount)

-- why no section begins with these lines, the first of which is line k: there is none; it is no count; or the count is too large
abbrev pub section_reason : ℕ → List (List ℕ) → Reason
section_reason k [] = NoCount
section_reason k (t ∷ ls) = given (decimal_of t) (count_reason k t) (λ n. TooFew)

-- why a line is no origin: it is an absolute name but for its last dot, or it is not; `@` alone is not
abbrev pub name_reason : List ℕ → Reason
name_reason t = cond (same_octets t (ascii "@")) NotName (given (origin_of ((t ++ ascii ".") ∷ [])) NotName (λ o. NoLastDot))

-- the fault of the line count that is line k; or that of the section and what follows it
abbrev pub in_section : ℕ → List (List ℕ) → (Section → Option Fault) → Option Fault
in_section k ls f = given (section ls) (at_line k (section_reason k ls)) f

-- from the records' line count on, which is line k: the line after the last section is at fault
abbrev pub records_fault : ℕ → List (List ℕ) → Option Fault
records_fault k ls = in_section k ls (λ s. cond (null s.later) None (at_line (k + length s.body + 1) LineAfter))

-- the origin's section, whose line count is line k, and the fault of what follows
abbrev pub name_fault : ℕ → List (List ℕ) → Option Fault → Option Fault
name_fault k [] later = at_line k NotOneLine
name_fault k (t ∷ []) later = given (origin_of (t ∷ [])) (at_line (k + 1) (name_reason t)) (λ o. later)
name_fault k (t ∷ u ∷ ls) later = at_line k NotOneLine

-- from the origin's line count on, which is line k
abbrev pub origin_fault : ℕ → List (List ℕ) → Option Fault
origin_fault k ls = in_section k ls (λ s. name_fault k s.body (records_fault (k + 2) s.later))

-- from the stanza's line count on, which is line 1
abbrev pub lines_fault : List (List ℕ) → Option Fault
lines_fault ls = in_section 1 ls (λ s. origin_fault (length s.body + 2) s.later)

-- "a job of at most 65,535 octets"
abbrev pub fault_of : List ℕ → Option Fault
fault_of xs = cond (leb (length xs) max_job) (lines_fault (lines_of xs)) (Some (record { line = None; reason = TooLong }))

-- A job has no fault exactly if it has the form.
abbrev pub FaultLaw : Type 0
FaultLaw = (xs : List ℕ) → (fault_of xs ≡ None) ↔ ((j : Job) × (job_within xs ≡ Some j))
