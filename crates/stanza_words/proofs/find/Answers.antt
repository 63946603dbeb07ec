use Prim.Native.Nat.{◌+◌}
use mathlib.Core.Path.{sym, ap, ◌∙◌}
use Rattle.format.specs.Octets.{name_octet}
use Rattle.format.specs.Number.{decimal_of}
use Rattle.octets.proofs.Slices.{lent}
use Rattle.stanza_words.proofs.Laws.{run_end, run_within, begins_lent, found_bad, found_word, found_other, found_fault, found_number}
use native.Mathlib.Omega.{arith}
use Rattle.stanza_words.proofs.find.Goals as goal

pub returns-then-not-begins_name : goal.returns-then-not-begins_name
returns-then-not-begins_name c =
    found_bad _ _ _ _ c.requires.from c.requires.to
    (run_end name_octet c.args.s.now c.args.a c.args.z _ c.requires.from c.skip.ensures)
    (begins_lent c.args.s.now c.args.a _ _ _ (omega arith) c.begins_name.ensures c.if-not-begins_name.true)

pub returns-then-n-z : goal.returns-then-n-z
returns-then-n-z c =
    found_word _ _ _ _ c.requires.from c.requires.to
    (run_end name_octet c.args.s.now c.args.a c.args.z _ c.requires.from c.skip.ensures)
    (begins_lent c.args.s.now c.args.a _ _ _ (omega arith) c.begins_name.ensures c.if-not-begins_name.false) c.if-n-z.true

pub returns-then-s-n-ne61 : goal.returns-then-s-n-ne61
returns-then-s-n-ne61 c =
    found_other _ _ _ _ c.requires.from c.requires.to
    (run_end name_octet c.args.s.now c.args.a c.args.z _ c.requires.from c.skip.ensures)
    (begins_lent c.args.s.now c.args.a _ _ _ (omega arith) c.begins_name.ensures c.if-not-begins_name.false)
    (omega (arith, run_within name_octet c.args.s.now c.args.a c.args.z _ c.requires.from c.skip.ensures c.requires.to))
    c.if-s-n-ne61.true

pub returns-in_err-number : goal.returns-in_err-number
returns-in_err-number c =
    let w = run_within name_octet c.args.s.now c.args.a c.args.z _ c.requires.from c.skip.ensures c.requires.to in
    let n = c.args.a + c.skip.result in
    rw c.from_residual.ensures
    (found_fault _ _ _ _ c.requires.from c.requires.to
    (run_end name_octet c.args.s.now c.args.a c.args.z _ c.requires.from c.skip.ensures)
    (begins_lent c.args.s.now c.args.a _ _ _ (omega arith) c.begins_name.ensures c.if-not-begins_name.false)
    (omega (arith, w)) c.if-s-n-ne61.false
    (ap decimal_of (sym (lent c.args.s.now (n + 1) c.args.z (omega (arith, w)))) ∙ sym c.decimal.ensures ∙ c.in_err-number.was))

pub returns : goal.returns
returns c =
    let w = run_within name_octet c.args.s.now c.args.a c.args.z _ c.requires.from c.skip.ensures c.requires.to in
    let n = c.args.a + c.skip.result in
    found_number _ _ _ _ c.requires.from c.requires.to
    (run_end name_octet c.args.s.now c.args.a c.args.z _ c.requires.from c.skip.ensures)
    (begins_lent c.args.s.now c.args.a _ _ _ (omega arith) c.begins_name.ensures c.if-not-begins_name.false) _
    (omega (arith, w)) c.if-s-n-ne61.false
    (ap decimal_of (sym (lent c.args.s.now (n + 1) c.args.z (omega (arith, w)))) ∙ sym c.decimal.ensures ∙ c.in_ok-number.was)
