use Rattle.std.proofs.Common.{ℕ, ◌-◌, ◌≤◌, ◌≡◌, List, length, drop}
use Rattle.catalogue.specs.Known.{names_in}
use Rattle.bitmap_picture.specs.Windows.{Holds}
use Rattle.buffer.specs.Writing.{after}
use Rattle.bitmap.specs.Reading.{types_read}
use Rattle.bitmap.proofs.read.fill.Given as goal

-- The picture holds the types of the tokens before j; they, and the types read from j on, are all the types.
abbrev pub invariant-loop-v : goal.invariant-loop-v
invariant-loop-v l = record {
  within : l.j ≤ length l.t;
  held : (ts : List ℕ) × Holds l.picture.windows l.picture.top ts × (types_read (names_in l.c) l.t ≡ after ts (types_read (names_in l.c) (drop l.j l.t)));
}

abbrev pub decreases-loop-v : goal.decreases-loop-v
decreases-loop-v l = length l.t - l.j
