-- Laws of the reads into a buffer.
use Rattle.std.proofs.Common.{ℕ, zero, suc, ◌+◌, ◌-◌, ◌≤◌, ◌<◌, ◌≡◌, sym, ap, ap₂, ◌∙◌, subst, List, ◌++◌, length, take, drop, arith}
use borrow.Rule.Slice.PartMut.{mid_of, put_mid, mid_len, same_len_mid, take_put}
use lib.Seq.{take-add}
use Rattle.std.proofs.lemmas.List.{take_rest}
use Rattle.std.proofs.lemmas.Slice.{between-put_mid}
use Rattle.std.specs.Prelude.{Option, Some, Result, Ok, Err, IfOk}
use Rattle.std.specs.Io.KnownBytes.{Consumes}
use Rattle.std.proofs.KnownBytes.{Consumes-trans}
use Rattle.streams.specs.Reading.{told, Once, OnceFrom, Took}

-- a read that took octets took at least one, and no more than it had room for
pub took : {E : Type 0} {most k : ℕ} {r : Result (Option ℕ) E} → Once most r → r ≡ Ok (Some k) → 0 < most → (0 < k) × (k ≤ most)
took {E} {most} {k} {r} o e h = by o.answered o.allowed (sym e ∙ o.judged)
  where
    by : (a : Result ℕ E) → IfOk a (λ n. n ≤ most) → Ok (Some k) ≡ told a most → (0 < k) × (k ≤ most)
    by (Ok zero) m q = cc
    by (Ok (suc n)) m q = grind arith
    by (Err x) m q = cc

-- the buffer, once the part that a read was lent is back
pub once : {E : Type 0} (xs ys : List ℕ) (from : ℕ) (r q : Result (Option ℕ) E) → from < length xs → length ys ≡ length (mid_of from (length xs - from) xs)
    → Once (length (mid_of from (length xs - from) xs)) r → r ≡ q → OnceFrom xs (put_mid from (length xs - from) xs ys) from q
once xs ys from r q h e o was =
    let lent : length (mid_of from (length xs - from) xs) ≡ length xs - from = mid_len from (length xs) xs (omega arith) in
    record {
      room = h;
      once = rw (lent, was) at o;
      front = take_put from (length xs - from) xs ys (omega arith);
      same = same_len_mid from (length xs - from) xs ys e;
    }

-- what was read so far and what a further read took are what both took
pub more_read : {E : Type 0} (a b c : Option (List ℕ)) (xs ys : List ℕ) (n k : ℕ) (r : Result (Option ℕ) E) → n < length xs → length ys ≡ length (mid_of n (length xs - n) xs) → r ≡ Ok (Some k)
    → Consumes a b (take n xs) → Took b c r ys → Consumes a c (take (n + k) (put_mid n (length xs - n) xs ys))
more_read {E} a b c xs ys n k r h e was p q =
    let now = put_mid n (length xs - n) xs ys in
    let lent : length ys ≡ length xs - n = e ∙ mid_len n (length xs) xs (omega arith) in
    let part : drop n now ≡ ys =
    sym (take_rest now n) ∙ ap (λ m. take (m - n) (drop n now)) (same_len_mid n (length xs - n) xs ys e) ∙ between-put_mid n (length xs - n) xs ys (length xs) (omega arith) lent in
    let some : Consumes b c (take k ys) = rw was at q in
    let whole : take n xs ++ take k ys ≡ take (n + k) now = ap₂ (λ s t. s ++ take k t) (sym (take_put n (length xs - n) xs ys (omega arith))) (sym part) ∙ sym (take-add n k now) in
    subst (Consumes a c) whole (Consumes-trans a b c _ _ p some)
