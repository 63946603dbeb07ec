use Rattle.std.proofs.Common.{◌≡◌, ◌+◌, ◌-◌, ◌≤◌, arith}
use borrow.Author.Rules.{rules}
use Rattle.format.specs.Text.{string_value}
use Rattle.buffer.proofs.Values.{counted_value}
use Rattle.text.specs.Text.{token_of}
use Rattle.text.proofs.read.string.Goals as goal

pub returns : goal.returns
returns c =
    let e : c.in_ok-count.count ≡ c.in_ok-m.m - (c.args.at + 1) = search rules in
    let h : c.in_ok-m.m - (c.args.at + 1) ≤ 255 = search rules in
    counted_value 0 c.args.out.now c.value.new.out c.args.at c.in_ok-m.m (string_value (token_of c.args.quoted c.args.t.now))
    (rw c.in_ok-m.was at c.value.ensures) _ (omega arith) h (rw e at c.put.ensures)
