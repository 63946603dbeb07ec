use borrow.Author.Rules.{rules}
use Rattle.buffer.proofs.Laws.{wrote_text}
use Rattle.number.proofs.Symbols.{with_number, bare_text, found_text}
use Rattle.number.proofs.print.put_number.Goals as goal

pub returns-then-a-b : goal.returns-then-a-b
returns-then-a-b c =
    λ w l e. wrote_text _ _ (bare_text _ _ _ c.args.v w l e c.if-a-b.true) c.put_decimal.ensures

pub returns-in-Some : goal.returns-in-Some
returns-in-Some c =
    λ w l e. wrote_text _ _
    (found_text _ _ _ c.args.v w l e c.if-a-b.false _ (c.in-Some.ensures.passes (with_number c.args.v) (λ t v r called. search rules)))
    c.put_all.ensures

pub returns-in-None : goal.returns-in-None
returns-in-None c =
    λ w l e. wrote_text _ _
    (found_text _ _ _ c.args.v w l e c.if-a-b.false _ (c.in-None.ensures.passes (with_number c.args.v) (λ t v r called. search rules)))
    c.put_decimal-in-None.ensures
