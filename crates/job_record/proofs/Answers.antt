-- Laws of what reading a record answered and left, and of the line for it.
use Prim.Native.Nat.{ℕ, zero, suc, ◌+◌, ◌-◌, ◌≤◌, ◌<◌}
use mathlib.Core.Path.{◌≡◌, refl, sym, ap, ◌∙◌}
use mathlib.Core.Bool.{true}
use mathlib.Core.List.{List, []}
use native.Mathlib.Omega.{arith}
use lib.Dec.{leb}
use lib.ListN.{length, take, drop}
use lib.Seq.{take_at}
use borrow.Author.Tests.{le-leb}
use Rattle.format.specs.Judge.{judged}
use Rattle.format.specs.Stored.{as_file}
use Rattle.format.specs.Entries.{Answer, done, refusal, reading, if_room, room, outcome, stored, read, read_of}
use Rattle.format.specs.Job.{answer_line, field_count}
use Rattle.job_line.proofs.Answers.{Short, reading_short}
use Rattle.stanza_judge.specs.declared.Outline.{Outline}
use Rattle.stanza_judge.specs.Stanza.{Outlined}
use Rattle.entry.proofs.Laws.{accepted}
use Rattle.entry.specs.declared.Reply.{Reply}
use Rattle.entry.specs.Entries.{Leaves}
use Rattle.entry_read.proofs.Readings.{read_rejected}
use Rattle.entry.proofs.Numbers.{read_told, zero_done}
use Rattle.job_record.specs.Answer.{line_under}

-- What reading leaves in a buffer with room for any RDATA is its answer.
module _ (a : Answer) (h : Short a) (out : List ℕ) (big : 65535 ≤ length out) where
  pub refused_answer : (number place : ℕ) → number ≡ (outcome out 0 (if_room (room out 0) a)).number → place ≡ (outcome out 0 (if_room (room out 0) a)).place → (number ≡ 0 → ⊥) → a ≡ refusal number place
  refused_answer number place p q z = by a h p q
    where
      by : (x : Answer) → Short x → number ≡ (outcome out 0 (if_room (room out 0) x)).number → place ≡ (outcome out 0 (if_room (room out 0) x)).place → x ≡ refusal number place
      by (refusal n i) s p q = rw (p, q)
      by (done t) s p q = let f : leb (length t) (length out - 0) ≡ true = le-leb (length t) (length out - 0) (omega arith) in absurd (z (rw f at p))

  module _ (place : ℕ) (after t : List ℕ) (e : a ≡ done t) (q : place ≡ (outcome out 0 (if_room (room out 0) a)).place) (s : after ≡ (outcome out 0 (if_room (room out 0) a)).lent) where
    few : length t ≤ 65535
    few = let k : Short (done t) = rw e at h in k

    fits : leb (length t) (length out - 0) ≡ true
    fits = le-leb (length t) (length out - 0) (omega (arith, few))

    pub done_place : place ≡ length t
    done_place = rw (e, fits) at q

    pub done_short : place ≤ 65535
    done_short = omega (arith, done_place, few)

    pub done_octets : take place after ≡ t
    done_octets =
        let f : after ≡ stored out 0 t = rw (e, fits) at s in
        rw (f, done_place) (take_at t (drop (0 + length t) out) (length t) refl)

-- Under a judged stanza, the number of fields that were counted gives each record's answer.
pub counted_answer : {s codes : List ℕ} {o : Outline} → Outlined (as_file s) s codes o → (origin t : List ℕ) → length t ≤ 1048576 → reading s 1 o.count origin t ≡ reading s 1 (field_count (judged s)) origin t
counted_answer {s} {codes} {o} q origin t h = by o.number refl
  where
    by : (n : ℕ) → o.number ≡ n → reading s 1 o.count origin t ≡ reading s 1 (field_count (judged s)) origin t
    by zero z = ap (λ k. reading s 1 k origin t) (sym (ap field_count (accepted q z) ∙ q.many))
    by (suc n) z =
        let p : 0 < o.number = omega arith in
        read_rejected (as_file s) [] [] q origin t h 1 o.count p ∙ sym (read_rejected (as_file s) [] [] q origin t h 1 (field_count (judged s)) p)

-- So each record's line is the line for what reading answered and left.
module _ {s codes : List ℕ} {o : Outline} (h : Outlined (as_file s) s codes o) (origin t : List ℕ) (l : length t ≤ 1048576) (out : List ℕ) (big : 65535 ≤ length out)
    (r : Reply) (after : List ℕ) (w : Leaves r after (read s 1 o.count origin t out 0)) where
  answer : Answer
  answer = reading s 1 o.count origin t

  told : answer ≡ reading s 1 (field_count (judged s)) origin t
  unfolding answer
  told = counted_answer h origin t l

  short : Short answer
  unfolding answer
  short = reading_short s 1 o.count origin t

  leaves : Leaves r after (outcome out 0 (if_room (room out 0) answer))
  unfolding answer read_of
  leaves = w

  found : r.number ≡ 0 → (xs : List ℕ) × (answer ≡ done xs) × (length xs ≤ room out 0)
  unfolding answer
  found z = zero_done answer (read_told (as_file s) 1 o.count [] [] origin t) out 0 (sym leaves.numbers ∙ z)

  pub record_place : r.number ≡ 0 → r.place ≤ 65535
  record_place z = done_short answer short out big r.place after (found z).0 (found z).1 leaves.places leaves.octets

  pub record_done : r.number ≡ 0 → answer_line (done (take r.place after)) ≡ line_under s origin t
  record_done z =
      let e = done_octets answer short out big r.place after (found z).0 (found z).1 leaves.places leaves.octets in
      ap (λ xs. answer_line (done xs)) e ∙ ap answer_line (sym (found z).1 ∙ told)

  pub record_refused : (r.number ≡ 0 → ⊥) → answer_line (refusal r.number r.place) ≡ line_under s origin t
  record_refused z = ap answer_line (sym (refused_answer answer short out big r.number r.place leaves.numbers leaves.places z) ∙ told)
