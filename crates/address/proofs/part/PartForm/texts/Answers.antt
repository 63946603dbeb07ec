use mathlib.Core.Path.{◌≡◌, ap, ◌∙◌}
use mathlib.Core.List.{[], ◌∷◌}
use native.Mathlib.Omega.{arith}
use lib.ListN.{length}
use Rattle.format.specs.Digits.{number}
use Rattle.buffer.proofs.Laws.{left_all, left_none, wrote_none}
use Rattle.buffer.proofs.Parted.{later, wrote_parted, went_on}
use Rattle.address.specs.Part.{mark_of, width_of, text_of}
use Rattle.address.proofs.Texts.{next_part, no_part, text_short, width_some}
use Rattle.address.proofs.part.PartForm.texts.Goals as goal

pub returns-in_default : goal.returns-in_default
returns-in_default c =
    let f = c.args.self in
    let e = no_part f c.args.p.now (rw c.width-w.ensures at c.in_default.ensures.cases) in
    rw e (wrote_none c.args.out.now c.args.at)

pub loop-x-init : goal.loop-x-init
loop-x-init c = (
  omega (arith, c.in-Some.ensures.cases, c.width-w.ensures, width_some c.args.self, c.put_text-m.ensures.count, text_short c.args.self (number 256 c.in-Some.x.now)),
  left_all _ _ _,
)

pub loop-x-preserved : goal.loop-x-preserved
loop-x-preserved c =
    let f = c.args.self in
    let s = c.in-Some-split_at_checked in
    let l : length s.x.now ≡ width_of f = s.ensures.cases.3 ∙ c.width-w.ensures in (
      omega (arith, s.ensures.cases, c.width-w.ensures, width_some f, c.put_octet-m.ensures.count, c.put_text-m-in-Some-split_at_checked.ensures.count, text_short f (number 256 s.x.now), c.loop-x.invariant.0),
      went_on (mark_of f ∷ []) (text_of f) _ _ _ (next_part f c.width-w.result c.loop-x.rest.now s.x.now s.next.now s.ensures.cases.1 s.ensures.cases.2 l)
          c.loop-x.invariant.1 (rw c.mark.ensures at c.put_octet-m.ensures) c.put_text-m-in-Some-split_at_checked.ensures,
    )

pub returns : goal.returns
returns c =
    let f = c.args.self in
    let s = c.in-Some in
    let l : length s.x.now ≡ width_of f = s.ensures.cases.3 ∙ c.width-w.ensures in
    let e = no_part f c.loop-x.rest.now (rw c.width-w.ensures at c.in_default-split_at_checked.ensures.cases) in
    wrote_parted (mark_of f ∷ []) (text_of f) _ _ _ (next_part f c.width-w.result c.args.p.now s.x.now s.rest.now s.ensures.cases.1 s.ensures.cases.2 l)
    c.put_text-m.ensures (left_none c.loop-x.invariant.1 (ap (later (mark_of f ∷ []) (text_of f)) e))
