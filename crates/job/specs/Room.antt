-- How much of the input the program has to read.
use Rattle.std.specs.Prelude.{ℕ, ◌≡◌, List, length, take}
use Rattle.format.specs.Job.{job}

-- Whatever the input is, as much of it as fits the buffer is answered as the whole of it: what does not fit is not missed.
abbrev pub Enough : List ℕ → Type 0
Enough buffer = (xs : List ℕ) → job (take (length buffer) xs) ≡ job xs
