-- A job has no fault exactly if it has the form.
use Prim.Native.Nat.{ℕ, ◌+◌}
use mathlib.Core.Path.{◌≡◌, refl}
use mathlib.Core.Logic.{◌↔◌}
use mathlib.Core.Bool.{Bool, true, false, cond}
use mathlib.Core.List.{List, [], ◌∷◌}
use Rattle.std.specs.Prelude.{Option, None, Some}
use native.Mathlib.Omega.{arith}
use lib.Dec.{leb}
use lib.ListN.{length}
use Rattle.format.specs.Lists.{◌>>=◌, provided, null}
use Rattle.format.specs.Lines.{lines_of}
use Rattle.format.specs.Job.{Section, section, origin_of, Job, ended, job_of, max_job}
use Rattle.job_fault.specs.Fault.{at_line, given, section_reason, name_reason, name_fault, records_fault, origin_fault, lines_fault, FaultLaw}
use Rattle.job_fault.specs.declared.reason.Reason.{Reason}
use Rattle.job_fault.specs.declared.reason.Reason.TheVariants.{TooLong, LineAfter}
use Rattle.job_fault.specs.declared.fault.Fault.{Fault}

-- no fault, and a job; or a fault, and none
abbrev Agree : Option Fault → Option Job → Type 0
Agree f o = (f ≡ None) ↔ ((j : Job) × (o ≡ Some j))

bad_at : (f : Fault) → Agree (Some f) None
bad_at f = (λ e. let z : ◌≡◌ {A = ℕ} 0 1 = cc in absurd (omega arith), λ p. no_job p.0 p.1)
  where
    no_job : (j : Job) → None ≡ Some j → Some f ≡ None
    no_job j e = cc

bad : (k : ℕ) (r : Reason) → Agree (at_line k r) None
bad k r = bad_at (record { line = Some k; reason = r })

good : (j : Job) → Agree None (Some j)
good j = (λ e. (j, refl), λ p. refl)

-- from the last section back to the first
module _ (stanza : List ℕ) (k : ℕ) (ls : List (List ℕ)) where
  abbrev last : Option Section → Option Fault
  last x = given x (at_line (k + 2) (section_reason (k + 2) ls)) (λ s. cond (null s.later) None (at_line (k + 2 + length s.body + 1) LineAfter))

  abbrev job_from : Option Section → Option (List ℕ) → Option Job
  job_from x y = x >>= λ r. y >>= λ g. provided (null r.later) (record { stanza = stanza; origin = g; records = r.body })

  no_origin : (x : Option Section) (i : ℕ) (r : Reason) → Agree (at_line i r) (job_from x None)
  no_origin None i r = bad i r
  no_origin (Some s) i r = bad i r

  records : (x : Option Section) (g : List ℕ) → Agree (last x) (job_from x (Some g))
  records None g = bad (k + 2) (section_reason (k + 2) ls)
  records (Some s) g = by (null s.later)
    where
      by : (b : Bool) → Agree (cond b None (at_line (k + 2 + length s.body + 1) LineAfter)) (provided b (record { stanza = stanza; origin = g; records = s.body }))
      by true = good _
      by false = bad _ _

  origin : (b : List (List ℕ)) (x : Option Section) → Agree (name_fault k b (last x)) (job_from x (origin_of b))
  origin [] x = no_origin x _ _
  origin (t ∷ []) x = by (origin_of (t ∷ []))
    where
      by : (y : Option (List ℕ)) → Agree (given y (at_line (k + 1) (name_reason t)) (λ o. last x)) (job_from x y)
      by None = no_origin x _ _
      by (Some g) = records x g
  origin (t ∷ u ∷ b) x = no_origin x _ _

lines : (ls : List (List ℕ)) → Agree (lines_fault ls) (section ls >>= λ s. section s.later >>= λ o. job_from (ended s.body) 0 [] (section o.later) (origin_of o.body))
lines ls = stanza (section ls)
  where
    after : (s : Section) (x : Option Section)
        → Agree (given x (at_line (length s.body + 2) (section_reason (length s.body + 2) s.later)) (λ o. name_fault (length s.body + 2) o.body (records_fault (length s.body + 2 + 2) o.later)))
        (x >>= λ o. job_from (ended s.body) 0 [] (section o.later) (origin_of o.body))
    after s None = bad _ _
    after s (Some o) = origin (ended s.body) (length s.body + 2) o.later o.body (section o.later)

    stanza : (x : Option Section)
        → Agree (given x (at_line 1 (section_reason 1 ls)) (λ s. origin_fault (length s.body + 2) s.later))
        (x >>= λ s. section s.later >>= λ o. job_from (ended s.body) 0 [] (section o.later) (origin_of o.body))
    stanza None = bad _ _
    stanza (Some s) = after s (section s.later)

pub fault_law : FaultLaw
fault_law xs = by (leb (length xs) max_job)
  where
    by : (b : Bool) → Agree (cond b (lines_fault (lines_of xs)) (Some (record { line = None; reason = TooLong }))) (cond b (job_of xs) None)
    by true = lines (lines_of xs)
    by false = bad_at (record { line = None; reason = TooLong })
