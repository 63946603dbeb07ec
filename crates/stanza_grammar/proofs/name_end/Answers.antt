use mathlib.Core.Path.{sym, ap, ◌∙◌}
use Rattle.format.specs.Octets.{name_octet}
use Rattle.format.specs.Grammar.{starts_with_letter}
use Rattle.octets.proofs.Slices.{lent}
use Rattle.stanza_words.proofs.Laws.{run_end}
use Rattle.stanza_grammar.proofs.Laws.{named, overlong, unlettered}
use Rattle.stanza_grammar.proofs.name_end.Goals as goal

pub returns-then-not-starts_with_letter-clause-value : goal.returns-then-not-starts_with_letter-clause-value
returns-then-not-starts_with_letter-clause-value c =
    unlettered c.args.s.now c.args.at c.args.end
    (ap starts_with_letter (sym (lent c.args.s.now c.args.at c.args.end c.requires.from)) ∙ sym c.starts_with_letter.ensures ∙ c.if-not-starts_with_letter.true)

pub returns-then-e-at-le63-clause-value : goal.returns-then-e-at-le63-clause-value
returns-then-e-at-le63-clause-value c =
    named c.args.s.now c.args.at c.args.end _ c.requires.from c.requires.to
    (ap starts_with_letter (sym (lent c.args.s.now c.args.at c.args.end c.requires.from)) ∙ sym c.starts_with_letter.ensures ∙ c.if-not-starts_with_letter.false)
    (run_end name_octet c.args.s.now c.args.at c.args.end _ c.requires.from c.skip.ensures) c.if-e-at-le63.true

pub returns-clause-value : goal.returns-clause-value
returns-clause-value c =
    overlong c.args.s.now c.args.at c.args.end _
    (run_end name_octet c.args.s.now c.args.at c.args.end _ c.requires.from c.skip.ensures) c.if-e-at-le63.false
