-- What judging answers, given the outline.
use Prim.Native.Nat.{ℕ, ◌≤◌}
use mathlib.Core.Path.{◌≡◌, sym, ◌∙◌}
use mathlib.Core.List.{List}
use native.Mathlib.Omega.{arith}
use borrow.Author.Tests.{eq-eqb, ne_eqb}
use Rattle.format.specs.Judge.{Judged, rejected, described}
use Rattle.format.specs.Stored.{Lent}
use Rattle.format.specs.Entries.{judge_of}
use Rattle.format.proofs.Judge.{judges}
use Rattle.stanza_judge.specs.declared.Outline.{Outline}
use Rattle.stanza_judge.specs.Stanza.{OutlinedAs, Outlined}
use Rattle.entry.specs.declared.Reply.{Reply}
use Rattle.entry.specs.Entries.{Replies}

module _ {j : Judged} {s codes : List ℕ} {o : Outline} (q : OutlinedAs j s codes o) where
  pub accepted : o.number ≡ 0 → j ≡ described q.found
  accepted h = sym q.judges ∙ rw (eq-eqb o.number 0 h)

  pub refused : (o.number ≡ 0 → ⊥) → j ≡ rejected o.number o.line
  refused h = sym q.judges ∙ rw (ne_eqb o.number 0 h)

module _ (l : Lent) {s codes : List ℕ} {o : Outline} (q : Outlined l s codes o) where
  pub accepted_count : o.number ≡ 0 → o.count ≤ 64
  accepted_count h = omega (arith, (judges l q.found (accepted q h)).most_fields, q.many)

  pub accepted_replies : (r : Reply) → o.number ≡ 0 → r.number ≡ 0 → r.place ≡ o.count → Replies r (judge_of l)
  unfolding judge_of
  accepted_replies r h n p = rw (accepted q h) (record { numbers = n; places = p ∙ sym q.many })

  pub refused_replies : (r : Reply) → (o.number ≡ 0 → ⊥) → r.number ≡ o.number → r.place ≡ o.line → Replies r (judge_of l)
  unfolding judge_of
  refused_replies r h n p = rw (refused q h) (record { numbers = n; places = p })
