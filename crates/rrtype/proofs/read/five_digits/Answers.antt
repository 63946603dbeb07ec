use Prim.Native.Nat.{◌-◌, ◌≤◌}
use mathlib.Core.Path.{◌≡◌, sym, ap, ◌∙◌}
use lib.ListN.{get_or}
use Rattle.octets.proofs.Numbers.{value_from, digit_on, one_more_digit}
use Rattle.octets.proofs.Slices.{next}
use Rattle.rrtype.proofs.Types.{digits_ended}
use native.Mathlib.Omega.{arith}
use borrow.Author.Rules.{rules}
use Rattle.rrtype.proofs.read.five_digits.Goals as goal

pub returns-then-not-is_ascii_digit-clause-value : goal.returns-then-not-is_ascii_digit-clause-value
returns-then-not-is_ascii_digit-clause-value c =
    digits_ended c.args.t.now c.loop-n.n c.loop-n.v (search rules) (search rules) c.loop-n.invariant.so_far

pub loop-n-preserved : goal.loop-n-preserved
loop-n-preserved c =
    let l : 48 ≤ get_or c.args.t.now c.loop-n.n 0 = search rules in
    let h : get_or c.args.t.now c.loop-n.n 0 ≤ 57 = search rules in
    let d : c.from.result ≡ get_or c.args.t.now c.loop-n.n 0 - 48 = search rules in record {
      small = one_more_digit c.loop-n.v c.loop-n.n _ c.loop-n.invariant.small (omega (arith, d));
      so_far =
          λ e k m. rw d
          (sym (digit_on c.loop-n.v _ _ l h) ∙ ap (value_from c.loop-n.v) (sym (next c.args.t.now c.loop-n.n e (omega arith) m)) ∙ c.loop-n.invariant.so_far e (omega arith) m);
    }

pub returns-clause-value : goal.returns-clause-value
returns-clause-value c =
    let e : c.loop-n.n ≡ 5 = search rules in
    digits_ended c.args.t.now 5 c.loop-n.v (search rules) (omega arith) (rw e at c.loop-n.invariant.so_far)
