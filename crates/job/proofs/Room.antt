-- A buffer with room for one octet more than a job may have is enough: an input that fills it is too long, whatever follows.
use Prim.Native.Nat.{ℕ, ◌<◌}
use mathlib.Core.Path.{◌≡◌, refl, ap}
use mathlib.Core.Bool.{Bool, true, false}
use mathlib.Core.List.{List}
use native.Mathlib.Omega.{arith}
use borrow.Author.Tests.{leb-true, leb-false, lt-leb}
use lib.Dec.{leb}
use lib.ListN.{length, take}
use lib.Seq.{length-take-le, take_all}
use Rattle.format.specs.Job.{job, max_job}

pub enough : (n : ℕ) → max_job < n → (xs : List ℕ) → job (take n xs) ≡ job xs
unfolding job
enough n h xs = by (leb (length xs) n) refl
  where
    by : (b : Bool) → leb (length xs) n ≡ b → job (take n xs) ≡ job xs
    by true q = ap job (take_all n xs (leb-true (length xs) n q))
    by false q =
        let more : n < length xs = leb-false (length xs) n q in
        let front : leb (length (take n xs)) max_job ≡ false = lt-leb (length (take n xs)) max_job (omega (arith, length-take-le n xs (omega arith))) in
        let whole : leb (length xs) max_job ≡ false = lt-leb (length xs) max_job (omega arith) in
        rw (front, whole)
