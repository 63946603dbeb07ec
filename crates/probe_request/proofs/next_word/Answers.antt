use Rattle.std.proofs.Common.{arith}
use Rattle.probe_request.proofs.Words.{next}
use Rattle.probe_request.proofs.next_word.Goals as goal

pub returns : goal.returns
returns c =
    let h = c.in_ok-words.ensures.cases in let a = c.split_at.ensures in
    next _ c.in_ok-words.words.now h.0 (cc (a.front, c.before_space.ensures)) (cc (a.back, c.before_space.ensures)) (omega (arith, a.front_len, a.back_len))
