use mathlib.Core.Path.{sym, ap, ◌∙◌}
use Rattle.format.specs.Octets.{same_octets}
use Rattle.format.specs.Stored.{tag}
use Rattle.stanza_stored.proofs.Strings.{stored_long, other_edition, tag_within, lines_begin, stored_cut, stored_short, not_tagged, is_tagged, first_lent}
use native.Mathlib.Omega.{arith}
use borrow.Author.Rules.{rules}
use Rattle.stanza_stored.proofs.start_of.Goals as goal

pub returns-then-s-gt8192 : goal.returns-then-s-gt8192
returns-then-s-gt8192 c = stored_long c.args.edition _ c.if-s-gt8192.true

pub returns-then-edition-ne13 : goal.returns-then-edition-ne13
returns-then-edition-ne13 c = other_edition _ _ c.if-s-gt8192.false (λ q. omega (arith, c.if-edition-ne13.true))

pub returns-in-Some : goal.returns-in-Some
returns-in-Some c =
    stored_cut _ _ c.if-s-gt8192.false (omega (arith, c.if-edition-ne13.false)) _ (rw c.in-Some.is at c.cut_string.ensures)

pub returns-then-s-lt2 : goal.returns-then-s-lt2
returns-then-s-lt2 c =
    stored_short _ _ c.if-s-gt8192.false (omega (arith, c.if-edition-ne13.false)) (rw c.in_default.is at c.cut_string.ensures) c.if-s-lt2.true

pub slice_bounds-is_tag-end : goal.slice_bounds-is_tag-end
slice_bounds-is_tag-end c =
    let w = rw (← c.from-e.ensures) at (tag_within _ (rw c.in_default.is at c.cut_string.ensures) c.if-s-lt2.false) in search (rules, w)

pub returns-then-is_tag : goal.returns-then-is_tag
returns-then-is_tag c =
    let whole = rw c.in_default.is at c.cut_string.ensures in
    rw c.from-e.ensures
    record {
      begins = lines_begin _ whole c.if-s-lt2.false c.if-s-gt8192.false;
      decides =
          is_tagged _ _ c.if-s-gt8192.false (omega (arith, c.if-edition-ne13.false)) whole c.if-s-lt2.false
          (sym c.if-is_tag.true ∙ rw c.from-e.ensures at (c.is_tag.ensures ∙ ap (λ t. same_octets t tag) (first_lent c.args.s.now c.from-e.result)));
    }

pub returns : goal.returns
returns c =
    let whole = rw c.in_default.is at c.cut_string.ensures in
    not_tagged _ _ c.if-s-gt8192.false (omega (arith, c.if-edition-ne13.false)) whole c.if-s-lt2.false
    (sym c.if-is_tag.false ∙ rw c.from-e.ensures at (c.is_tag.ensures ∙ ap (λ t. same_octets t tag) (first_lent c.args.s.now c.from-e.result)))
