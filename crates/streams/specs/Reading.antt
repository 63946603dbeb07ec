-- What reads answer, what a buffer holds after them, and what a reader has left.
use Rattle.std.specs.Prelude.{ℕ, ◌+◌, ◌-◌, ◌≤◌, ◌<◌, min, ◌≡◌, cond, List, [], length, take, eqb, IfOk}
use Rattle.std.specs.Prelude.{Option, None, Some, Result, Ok, Err}
use Rattle.std.specs.Io.KnownBytes.{Keeps, Consumes, IsAtEnd}

-- What the answer of a read means that was handed room for `most` octets: 0 is the end of the input, an error is a failure and never the end.
abbrev pub told : {E : Type 0} → Result ℕ E → ℕ → Result (Option ℕ) E
told (Ok k) most = Ok (cond (eqb k 0) None (Some (min k most)))
told (Err e) most = Err e

-- One read that was handed room for `most` octets: it answered what a read may answer, an error or how many octets it took, at most `most`. This is judged by
-- `told`.
pub record Once {E : Type 0} (most : ℕ) (r : Result (Option ℕ) E) : Type 0 where
  pub answered : Result ℕ E
  pub allowed : IfOk answered (λ k. k ≤ most)
  pub judged : r ≡ told answered most

-- One read into the places of a buffer from `from` on, of which there is at least one. Before these places the octets are as they were.
pub record OnceFrom {E : Type 0} (before after : List ℕ) (from : ℕ) (r : Result (Option ℕ) E) : Type 0 where
  pub room : from < length before
  pub once : Once (length before - from) r
  pub front : take from after ≡ take from before
  pub same : length after ≡ length before

-- All the reads into a buffer xs whose first n octets are read, to the one that leaves zs. Each goes on behind what the others took. They are over where the
-- buffer is full or the input ends; a read that fails makes all that was read void.
pub data Reading {E : Type 0} : List ℕ → ℕ → Result ℕ E → List ℕ → Type 0 where
  full : {xs : List ℕ} {n : ℕ} → length xs ≤ n → Reading xs n (Ok n) xs
  ended : {xs ys : List ℕ} {n : ℕ} → OnceFrom {E = E} xs ys n (Ok None) → Reading xs n (Ok n) ys
  failed : {xs ys : List ℕ} {n : ℕ} {e : E} → OnceFrom xs ys n (Err e) → Reading xs n (Err e) ys
  further : {xs ys zs : List ℕ} {n k : ℕ} {r : Result ℕ E} → OnceFrom {E = E} xs ys n (Ok (Some k)) → Reading ys (n + k) r zs → Reading xs n r zs

-- What an answer means for the octets that the reader has left, where those are known: the room begins with as many of them as were taken, and a read that failed
-- took none. Standard input says nothing of its octets; a reader of octets in memory does.
abbrev pub Took : {E : Type 0} → Option (List ℕ) → Option (List ℕ) → Result (Option ℕ) E → List ℕ → Type 0
Took before after (Ok None) room = Consumes before after [] × IsAtEnd after
Took before after (Ok (Some k)) room = Consumes before after (take k room)
Took before after (Err e) room = Keeps before after

-- And for all the reads: the first octets of the buffer are the first that the reader had, and it has none left unless the buffer is full.
abbrev pub Drained : {E : Type 0} → Option (List ℕ) → Option (List ℕ) → Result ℕ E → List ℕ → Type 0
Drained before after (Err e) zs = Unit {0}
Drained before after (Ok n) zs = Consumes before after (take n zs) × (n < length zs → IsAtEnd after)
