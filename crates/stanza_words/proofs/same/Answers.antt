use mathlib.Core.Path.{sym, ◌∙◌}
use mathlib.Core.Bool.{true, false}
use Rattle.stanza_words.proofs.Laws.{same_length, same_more, same_done}
use native.Mathlib.Omega.{arith}
use Rattle.stanza_words.proofs.same.Goals as goal

pub returns-then-s-t : goal.returns-then-s-t
returns-then-s-t c = sym (same_length c.args.ignoring c.args.s.now c.args.t.now c.if-s-t.true)

pub loop-i-preserved : goal.loop-i-preserved
loop-i-preserved c =
    same_more c.args.ignoring c.args.s.now c.args.t.now c.loop-i.i (omega arith) (omega arith) true true
    (sym c.if-not-same_octet.false ∙ c.same_octet.ensures) ∙ c.loop-i.invariant

pub returns-then-not-same_octet : goal.returns-then-not-same_octet
returns-then-not-same_octet c =
    same_more c.args.ignoring c.args.s.now c.args.t.now c.loop-i.i (omega arith) (omega arith) false true
    (sym c.if-not-same_octet.true ∙ c.same_octet.ensures) ∙ c.loop-i.invariant

pub returns : goal.returns
returns c =
    sym (same_done c.args.ignoring c.args.s.now c.args.t.now c.loop-i.i true (omega arith) (omega arith)) ∙ c.loop-i.invariant
