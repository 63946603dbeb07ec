use Rattle.entry.proofs.Laws.{accepted_replies, refused_replies}
use Rattle.entry.proofs.replied.Goals as goal

pub returns-then-outline-eq0 : goal.returns-then-outline-eq0
returns-then-outline-eq0 c =
    λ l s codes q. accepted_replies l q _ c.if-outline-eq0.true c.accepted.ensures.number c.accepted.ensures.place

pub returns : goal.returns
returns c =
    λ l s codes q. refused_replies l q _ c.if-outline-eq0.false c.rejected.ensures.number c.rejected.ensures.place
