-- `job::answer` ends: each turn but the last goes on to a later record.
use Rattle.job_turns.proofs.Turns.{turns_left}
use Rattle.job_turns.specs.Job.{Begins}
use Rattle.job.proofs.answer.Given as goal

-- The job is the one that was begun; nothing is claimed here of what is written.
abbrev pub invariant-loop-rest : goal.invariant-loop-rest
invariant-loop-rest l = Begins l.j l.job

-- Each turn leaves fewer turns.
abbrev pub decreases-loop-rest : goal.decreases-loop-rest
decreases-loop-rest l = turns_left l.j l.rest
