-- The line of an answer, from what an entry answered and left.
use Rattle.std.proofs.Common.{◌≡◌, ℕ, ◌+◌, ◌≤◌, Bool, true, false, cond, List, [], length, take, drop, arith, refl, sym, ap, ◌∙◌}
use Rattle.std.specs.Prelude.{None, Some}
use mathlib.Core.Bool.{true≢false}
use lib.Dec.{leb}
use lib.ListN.{length-append, length-take, drop_of_length-le}
use lib.Seq.{take_at}
use borrow.Author.Tests.{eq-eqb, leb-true}
use Rattle.format.specs.Catalogue.{Entry}
use Rattle.format.specs.Entries.{Answer, done, refusal, if_room, room, outcome, print_of, print_with, print_stored, read_of, read_with, read_stored}
use Rattle.catalogue.proofs.Cut.{print_cut, read_cut}
use Rattle.entry.specs.declared.Reply.{Reply}
use Rattle.entry.specs.Entries.{Leaves, with_room}
use Rattle.entry.proofs.Numbers.{Told, print_told, read_told}
use Rattle.probe_request.specs.Request.{Asked}
use Rattle.probe_request.specs.declared.Span.{Span}
use Rattle.probe_request.specs.declared.Run.{Run}
use Rattle.probe_request.specs.Words.{Alone, text_at, run_named}
use Rattle.probe_reply.specs.Entries.{entries_in}
use Rattle.probe_reply.specs.Replies.{result_line}
use Rattle.probe_reply.specs.Reply.{answer_line, lent_in, asked_printing, asked_reading, result_of}
use Rattle.probe_reply.proofs.Replies.{result_most}

-- no refusal has the number 0
room_told : (n : ℕ) (a : Answer) → Told a → Told (if_room n a)
room_told n (refusal m i) h = h
room_told n (done t) h = by (leb (length t) n)
  where
    by : (b : Bool) → Told (cond b (done t) (refusal 12 (length t)))
    by true = tt
    by false = refl

result_line_lem : (out : List ℕ) (a : Answer) → Told a → result_line (outcome out 0 a).number (outcome out 0 a).place (result_of (outcome out 0 a).number (outcome out 0 a).place (outcome out 0 a).lent) ≡ answer_line a
result_line_lem out (done t) h = ap (result_line 0 (length t)) (take_at t (drop (0 + length t) out) (length t) refl)
result_line_lem out (refusal n i) h = rw h

module _ (a : Answer) (h : Told a) (out : List ℕ) {after : List ℕ} {r : Reply} (w : Leaves r after (with_room out 0 a)) where
  pub answered : result_line r.number r.place (result_of r.number r.place after) ≡ answer_line (if_room (length out) a)
  answered =
      let e : room out 0 ≡ length out = omega arith in
      rw (w.numbers, w.places, w.octets) (result_line_lem out (if_room (room out 0) a) (room_told (room out 0) a h)) ∙ ap (λ n. answer_line (if_room n a)) e

  pub place_within : r.number ≡ 0 → r.place ≤ length after
  place_within z = by (if_room (room out 0) a) (room_told (room out 0) a h) (sym w.numbers ∙ z) w.places w.octets
    where
      by : (b : Answer) → Told b → (outcome out 0 b).number ≡ 0 → r.place ≡ (outcome out 0 b).place → after ≡ (outcome out 0 b).lent → r.place ≤ length after
      by (done t) k q p o = rw (p, o) (omega (arith, length-append t (drop (0 + length t) out)))
      by (refusal n i) k q p o = absurd (true≢false (sym (eq-eqb n 0 q) ∙ k))

pub printing_told : (q : Asked) → Told (asked_printing q)
printing_told q = print_told (lent_in q) q.first q.many (entries_in q.entries) q.names q.octets

pub reading_told : (q : Asked) → Told (asked_reading q)
reading_told q = read_told (lent_in q) q.first q.many (entries_in q.entries) q.names q.origin q.octets

-- no line is longer than the room for one
pub answer_fits : (n : ℕ) (a : Answer) → n ≤ 1048576 → length (answer_line (if_room n a)) ≤ 2097176
answer_fits n (refusal m i) h = omega (arith, result_most m i [])
answer_fits n (done t) h = by (leb (length t) n) refl
  where
    by : (b : Bool) → leb (length t) n ≡ b → length (answer_line (cond b (done t) (refusal 12 (length t)))) ≤ 2097176
    by true e = omega (arith, result_most 0 (length t) t, leb-true (length t) n e)
    by false e = omega (arith, result_most 12 (length t) [])

-- a part of no octets
no_part : (xs : List ℕ) (s : Span) → s.from ≡ s.to → text_at xs s ≡ []
no_part xs s e = drop_of_length-le (take s.to xs) (omega (arith, length-take s.to xs))

-- What the entries answered and left is what the request asks for: of the entries of a catalogue the first 513 are all that is
-- looked at, and none stand beside a stored description.
module _ (q : Run) (xs out : List ℕ) {after : List ℕ} {r : Reply} where
  module _ (few : List Entry) (n : q.lent.edition ≡ None) (h : few ≡ take 513 (entries_in (text_at xs q.catalogue.entries))) where
    pub filed_printed : Leaves r after (print_with (text_at xs q.lent.text) q.first q.many few (text_at xs q.catalogue.names) (text_at xs q.octets) out 0)
        → Leaves r after (with_room out 0 (asked_printing (run_named 80 q xs)))
    unfolding print_of
    filed_printed w = rw n (rw (h, print_cut (text_at xs q.lent.text) q.first q.many (entries_in (text_at xs q.catalogue.entries)) (text_at xs q.catalogue.names) (text_at xs q.octets) out 0) at w)

    pub filed_read : Leaves r after (read_with (text_at xs q.lent.text) q.first q.many few (text_at xs q.catalogue.names) (text_at xs q.origin) (text_at xs q.octets) out 0)
        → Leaves r after (with_room out 0 (asked_reading (run_named 82 q xs)))
    unfolding read_of
    filed_read w = rw n (rw (h, read_cut (text_at xs q.lent.text) q.first q.many (entries_in (text_at xs q.catalogue.entries)) (text_at xs q.catalogue.names) (text_at xs q.origin) (text_at xs q.octets) out 0) at w)

  module _ (edition : ℕ) (n : q.lent.edition ≡ Some edition) (a : Alone q) where
    pub stored_printed : Leaves r after (print_stored (text_at xs q.lent.text) q.first q.many edition (text_at xs q.octets) out 0)
        → Leaves r after (with_room out 0 (asked_printing (run_named 80 q xs)))
    unfolding print_of
    stored_printed w = rw (n, no_part xs q.catalogue.entries a.entries, no_part xs q.catalogue.names a.names) w

    pub stored_read : Leaves r after (read_stored (text_at xs q.lent.text) q.first q.many edition (text_at xs q.origin) (text_at xs q.octets) out 0)
        → Leaves r after (with_room out 0 (asked_reading (run_named 82 q xs)))
    unfolding read_of
    stored_read w = rw (n, no_part xs q.catalogue.entries a.entries, no_part xs q.catalogue.names a.names) w
