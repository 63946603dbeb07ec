use Rattle.std.proofs.Common.{◌-◌, length, take}
use lib.Seq.{slice}
use Rattle.job_record.specs.Answer.{line_under}
use Rattle.job_turns.proofs.Turns.{Reached}
use Rattle.job_turns.proofs.put_lines.Given as goal

-- The lines of the records before m are written; they, and the lines of those from m on, are what is left at `at`.
abbrev pub invariant-loop-m : goal.invariant-loop-m
invariant-loop-m l =
    Reached (line_under (slice l.p.from l.p.to l.j) (take l.p.origin l.job.origin)) l.j l.at l.initial.out l.out l.m l.n

abbrev pub decreases-loop-m : goal.decreases-loop-m
decreases-loop-m l = length l.j - l.m
