use Rattle.stanza_grammar.proofs.Laws.{bad_name, bad_text, line_found}
use Rattle.stanza_grammar.proofs.after_type.Goals as goal

pub returns-in_err-name-clause-value : goal.returns-in_err-name-clause-value
returns-in_err-name-clause-value c =
    rw c.from_residual-in_err-name.ensures
    (bad_name c.args.s.now c.args.at c.args.e c.args.end c.in_ok-qualifiers.was c.bracketed.ensures.value c.in_err-name.was
    c.field_name.ensures.value)

pub returns-in_err-text_at-clause-value : goal.returns-in_err-text_at-clause-value
returns-in_err-text_at-clause-value c =
    rw c.from_residual-in_err-text_at.ensures
    (bad_text c.args.s.now c.args.at c.args.e c.args.end c.in_ok-qualifiers.was c.bracketed.ensures.value c.in_ok-name.was
    c.field_name.ensures.value c.in_err-text_at.was c.free_text.ensures.value)

pub returns-clause-value : goal.returns-clause-value
returns-clause-value c =
    line_found c.args.s.now c.args.at c.args.e c.args.end c.in_ok-qualifiers.was c.bracketed.ensures.value c.in_ok-name.was
    c.field_name.ensures.value c.in_ok-text_at.was c.free_text.ensures.value c.field_name.ensures.within c.requires.to
