use Rattle.std.proofs.Common.{arith, sym, ◌∙◌}
use Rattle.probe_request.proofs.Numbers.{great, all_read}
use Rattle.probe_request.proofs.number.Goals as goal

pub returns-in_err-checked_mul : goal.returns-in_err-checked_mul
returns-in_err-checked_mul c =
    let d = c.if-not-is_ascii_digit.ensures.cases in
    c.from_residual.ensures ∙ sym (great c.args.word.now c.loop-b.b-index c.loop-b.value c.loop-b.invariant.number c.loop-b-test.true d.0 d.1 (omega (arith, c.in_err-checked_mul.ensures)))

pub returns-in_err-value : goal.returns-in_err-value
returns-in_err-value c =
    let d = c.if-not-is_ascii_digit.ensures.cases in
    c.from_residual-in_err-value.ensures ∙ sym (great c.args.word.now c.loop-b.b-index c.loop-b.value c.loop-b.invariant.number c.loop-b-test.true d.0 d.1 (omega (arith, c.in_err-value.ensures, c.in_ok-checked_mul.ensures.1, c.from.ensures)))

pub returns : goal.returns
returns c = sym (all_read c.args.word.now c.loop-b.b-index c.loop-b.value c.loop-b.invariant.number c.loop-b-test.false c.loop-b.invariant.small)
