use mathlib.Core.Path.{sym, ap, ◌∙◌}
use Rattle.octets.proofs.Slices.{lent}
use Rattle.stanza_line.specs.Verdict.{field_for, named_among}
use Rattle.stanza_line.proofs.Verdicts.{seen_header, named_again, too_many, one_more}
use native.Mathlib.Omega.{arith}
use Rattle.stanza_line.proofs.field_step.Goals as goal

pub returns-then-name_again : goal.returns-then-name_again
returns-then-name_again c =
    let q = seen_header c.args.seen c.requires.after c.in_default.not-Tail in
    let a = c.from-a.result in
    let e = c.from-e.result in record {
      due = tt;
      verdict =
          rw q
          (λ d st. named_again c.args.s.now d c.args.names.now (field_for c.args.s.now c.args.x) a e (rw (c.from-a.ensures, c.from-e.ensures)) st
          (ap (named_among c.args.s.now c.args.names.now) (sym (lent c.args.s.now a e (omega (arith, c.requires.within.name_from))))
          ∙ sym c.name_again.ensures ∙ c.if-name_again.true));
    }

pub returns-then-names-ge64 : goal.returns-then-names-ge64
returns-then-names-ge64 c =
    let q = seen_header c.args.seen c.requires.after c.in_default.not-Tail in
    let a = c.from-a.result in
    let e = c.from-e.result in record {
      due = tt;
      verdict =
          rw q
          (λ d st. too_many c.args.s.now d c.args.names.now (field_for c.args.s.now c.args.x) a e (rw (c.from-a.ensures, c.from-e.ensures)) st
          (ap (named_among c.args.s.now c.args.names.now) (sym (lent c.args.s.now a e (omega (arith, c.requires.within.name_from))))
          ∙ sym c.name_again.ensures ∙ c.if-name_again.false) c.if-names-ge64.true);
    }

pub returns : goal.returns
returns c =
    let q = seen_header c.args.seen c.requires.after c.in_default.not-Tail in
    let a = c.from-a.result in
    let e = c.from-e.result in record {
      due = record { few = c.if-names-ge64.false; after = q; placed = c.requires.within.placed };
      verdict =
          rw q
          (λ d st. one_more c.args.s.now d c.args.names.now (field_for c.args.s.now c.args.x) a e (rw (c.from-a.ensures, c.from-e.ensures)) st
          (ap (named_among c.args.s.now c.args.names.now) (sym (lent c.args.s.now a e (omega (arith, c.requires.within.name_from))))
          ∙ sym c.name_again.ensures ∙ c.if-name_again.false) c.if-names-ge64.false);
    }
