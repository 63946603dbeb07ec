use Prim.Native.Nat.{◌+◌}
use mathlib.Core.Path.{sym, ap, ◌∙◌}
use native.Mathlib.Omega.{arith}
use Rattle.format.specs.Lists.{all_of}
use Rattle.format.specs.Octets.{in_range}
use Rattle.octets.proofs.Slices.{lent}
use Rattle.stanza_grammar.proofs.Laws.{text_all, text_tight}
use Rattle.stanza_grammar.proofs.free_text.Goals as goal
use Rattle.stanza_grammar.proofs.free_text.Goals.{then-not-has-via-then-not-has, then-not-has-via-else-not-has+then-not-all_free}

pub returns-clause-value : goal.returns-clause-value
returns-clause-value c =
    text_all _ _ _ (omega arith) c.requires.to (sym c.has.ensures ∙ c.if-not-has.false) _
    (sym c.if-not-all_free.false ∙ c.all_free.ensures ∙ ap (all_of (in_range 0x20 0xFE)) (lent c.args.s.now (c.args.i + 1) c.args.end (omega arith)))

pub returns-then-not-has-clause-value : goal.returns-then-not-has-clause-value
returns-then-not-has-clause-value c =
    elim c.then-not-has.branch [
      | then-not-has-via-then-not-has w ↦ text_tight _ _ _ (omega arith) c.requires.to (sym c.has.ensures ∙ w.if-not-has.true)
      | then-not-has-via-else-not-has+then-not-all_free w ↦
          text_all _ _ _ (omega arith) c.requires.to (sym c.has.ensures ∙ w.if-not-has.false) _
          (sym w.if-not-all_free.true ∙ w.all_free.ensures
          ∙ ap (all_of (in_range 0x20 0xFE)) (lent c.args.s.now (c.args.i + 1) c.args.end (omega arith)))
    ]
