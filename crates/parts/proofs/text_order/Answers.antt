use mathlib.Core.Path.{◌≡◌, refl}
use borrow.Author.Rules.{rules}
use Rattle.std.specs.Ordering.{nat_cmp}
use Rattle.std.proofs.lemmas.Iterator.{YieldsList-from_slice, YieldsList-from_map}
use Rattle.std.proofs.lemmas.Iterator.Search.{cmp_from_yields_List}
use Rattle.parts.specs.Parts.{folded}
use Rattle.parts.proofs.text_order.Goals as goal

pub returns : goal.returns
returns c =
    cmp_from_yields_List (λ x y. y ≡ x) _ nat_cmp _ c.cmp.ensures.ran
    (YieldsList-from_map _ (folded c.args.ignoring) (YieldsList-from_slice c.args.xs.now cc) c.map-folded.ensures.closure (λ x r q k. search rules))
    (λ it e. rw e (YieldsList-from_map _ (folded c.args.ignoring) (YieldsList-from_slice c.args.ys.now cc) c.map.ensures.closure (λ x r q k. search rules)))
    (λ x y. refl)
