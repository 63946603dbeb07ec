-- A text that is stored in the room from a place on, or refused for want of room.
use Prim.Native.Nat.{ℕ, ◌+◌, ◌-◌, ◌≤◌, ◌<◌, min}
use mathlib.Core.Path.{◌≡◌, refl, sym, ap, ◌∙◌}
use mathlib.Core.List.{List, [], ◌∷◌, ◌++◌, append-nil}
use native.Mathlib.Omega.{arith}
use native.Mathlib.Nat.{add-zero}
use lib.ListN.{length, take, drop, take-append-drop}
use lib.Seq.{sets, sets-eq}
use borrow.Author.Tests.{le-leb, lt-leb}
use Rattle.format.specs.Entries.{Answer, done, refusal, stored}
use Rattle.buffer.specs.Writing.{Wrote}
use Rattle.buffer.proofs.Laws.{part_wrote}
use Rattle.entry.specs.declared.Reply.{Reply}
use Rattle.entry.specs.Entries.{Leaves, with_room}

-- what a writer stores is what the definition stores
sets_stored : (out : List ℕ) (at : ℕ) (t : List ℕ) → length t ≤ length out - at → sets out at t ≡ stored out at t
sets_stored out at [] h = sym (ap (λ k. take at out ++ [] ++ drop k out) (add-zero at) ∙ ap (λ r. r ++ drop at out) (append-nil (take at out)) ∙ take-append-drop at out)
sets_stored out at (x ∷ t) h = sets-eq (x ∷ t) out at (omega arith)

-- there is room
pub leaves_done : (o out ys : List ℕ) (at a w : ℕ) (t : List ℕ) (r : Reply) → o ≡ out → a ≡ min at (length out) → length t ≤ length out - at
    → Wrote (take (length o - a) (drop a o)) ys 0 w t → r.number ≡ 0 → r.place ≡ w → Leaves r (take a o ++ (ys ++ drop (length o - a) (drop a o))) (with_room out at (done t))
leaves_done o out ys at a w t r e q h v n p =
    rw (le-leb (length t) (length out - at) h) (record {
      numbers = n;
      places = p ∙ v.count ∙ omega arith;
      octets = (part_wrote o ys at a w t (q ∙ ap (λ l. min at (length l)) (sym e)) v).octets ∙ ap (λ l. sets l at t) e ∙ sets_stored out at t h;
    })

-- there is no room
pub leaves_measured : (out after : List ℕ) (at need : ℕ) (t : List ℕ) (r : Reply) → after ≡ out → need ≡ 0 + length t → length out - at < need → r.number ≡ 12 → r.place ≡ need
    → Leaves r after (with_room out at (done t))
leaves_measured out after at need t r e m h n p =
    let q : need ≡ length t = omega arith in
    rw (lt-leb (length t) (length out - at) (omega arith)) (record { numbers = n; places = p ∙ q; octets = e })

-- a refusal
pub leaves_refused : (out : List ℕ) (at number place : ℕ) (a : Answer) (r : Reply) → a ≡ refusal number place → r.number ≡ number → r.place ≡ place → Leaves r out (with_room out at a)
leaves_refused out at number place a r e n p = rw e (record { numbers = n; places = p; octets = refl })
