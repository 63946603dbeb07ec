use mathlib.Core.Path.{sym, ap, ◌∙◌}
use Rattle.format.specs.Octets.{alphanumeric}
use Rattle.format.specs.Grammar.{starts_with_letter}
use Rattle.octets.proofs.Slices.{lent}
use Rattle.stanza_words.proofs.Laws.{run_end}
use Rattle.stanza_grammar.proofs.Laws.{typed, untyped}
use Rattle.stanza_grammar.proofs.field_line.Goals as goal

pub returns-then-not-starts_with_letter-clause-value : goal.returns-then-not-starts_with_letter-clause-value
returns-then-not-starts_with_letter-clause-value c =
    untyped c.args.s.now c.args.at c.args.end
    (ap starts_with_letter (sym (lent c.args.s.now c.args.at c.args.end c.requires.from)) ∙ sym c.starts_with_letter.ensures ∙ c.if-not-starts_with_letter.true)

pub returns-clause-value : goal.returns-clause-value
returns-clause-value c =
    c.after_type.ensures.value
    ∙ typed c.args.s.now c.args.at c.args.end _ c.requires.from c.requires.to
    (ap starts_with_letter (sym (lent c.args.s.now c.args.at c.args.end c.requires.from)) ∙ sym c.starts_with_letter.ensures ∙ c.if-not-starts_with_letter.false)
    (run_end alphanumeric c.args.s.now c.args.at c.args.end _ c.requires.from c.skip.ensures)
