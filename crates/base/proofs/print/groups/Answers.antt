use Rattle.std.proofs.Common.{◌≡◌, ◌*◌, ◌/◌, length, ◌∙◌, ap, arith}
use Rattle.base.specs.Alphabet.{chars}
use Rattle.format.specs.Base.{to_digits}
use Rattle.base.proofs.Texts.{one_more, stored, next_piece, next_group}
use Rattle.buffer.proofs.Laws.{left_piece}
use Rattle.base.proofs.print.groups.Goals as goal

pub loop-xs-preserved : goal.loop-xs-preserved
loop-xs-preserved g c =
    let r = g.row in
    let a = c.args.alphabet.now in
    let x = c.xs-item.result in
    let i = c.loop-xs.xs-index in
    let l : length x ≡ r.G = c.number_of.ensures.long in
    record {
      place = omega (arith, one_more (8 * r.G / r.W) i, c.loop-xs.invariant.place);
      left = left_piece _ _ _ _ c.loop-xs.invariant.left
          (ap (λ ys. chars a (to_digits r.W ys)) (next_piece c.args.pieces.now i x (omega arith) c.xs-item.is) ∙ next_group r.W r.G r.N a c.requires.grouped x _ l)
          (stored r.W r.G r.N a c.requires.grouped _ _ _ _ x c.number_of.ensures.value c.store.ensures);
    }
