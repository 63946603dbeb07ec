use Rattle.std.proofs.Common.{◌-◌, ◌≤◌, ◌≡◌, length, ℕ, List, take}
use Rattle.std.specs.Prelude.{Result}
use Rattle.std.specs.declared.io.Error.{Error}
use Rattle.std.specs.Io.KnownBytes.{Consumes}
use Rattle.streams.specs.Reading.{Reading}
use Rattle.streams.proofs.read_all.Given as goal

-- However the reads go on from here, with n octets read, all of them together went so from the start.
abbrev pub invariant-loop-n : goal.invariant-loop-n
invariant-loop-n g l = record {
  inside : l.n ≤ length l.buf;
  kept : length l.buf ≡ length l.initial.buf;
  reading : (r : Result ℕ Error) (zs : List ℕ) → Reading l.buf l.n r zs → Reading l.initial.buf 0 r zs;
  octets : Consumes (g.R.Read.remaining l.initial.input) (g.R.Read.remaining l.input) (take l.n l.buf);
}

abbrev pub decreases-loop-n : goal.decreases-loop-n
decreases-loop-n g l = length l.initial.buf - l.n
