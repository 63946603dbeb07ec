-- The line that answers a record.
use Rattle.std.specs.Prelude.{ℕ, List, []}
use Rattle.format.specs.Job.{record_line}

-- of the job, it depends on the stanza and the origin only
abbrev pub line_under : List ℕ → List ℕ → List ℕ → List ℕ
line_under stanza origin t = record_line (record { stanza = stanza; origin = origin; records = [] }) t
