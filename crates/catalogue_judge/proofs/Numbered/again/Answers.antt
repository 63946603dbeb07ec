use mathlib.Core.Path.{sym, ◌∙◌}
use native.Mathlib.Omega.{arith}
use Rattle.catalogue_judge.proofs.Marks.{hash_none}
use Rattle.catalogue_judge.proofs.Numbered.again.Goals.{then-marked, else-marked}
use Rattle.catalogue_judge.proofs.Numbered.again.Goals as goal

pub returns-else-some_hash : goal.returns-else-some_hash
returns-else-some_hash c =
    let s = c.args.self.now in
    elim c.if-marked.branch [
      | then-marked w ↦
          c.if-some_hash.false
          ∙ sym (hash_none s.names.now s.entries.now s.hashes.now c.args.k (omega (arith, c.requires.within, s.within)) (λ j l. s.hashed j (omega (arith, c.requires.within, l)))
          (omega (arith, c.requires.within)) (sym w.some_hash.ensures ∙ sym w.value-is ∙ c.if-some_hash.false))
      | else-marked w ↦ c.if-some_hash.false ∙ sym (c.requires.unmarked w.if-marked.false)
    ]
