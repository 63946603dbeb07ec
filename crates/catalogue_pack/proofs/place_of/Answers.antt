use borrow.Author.Rules.{rules}
use Rattle.std.proofs.lemmas.List.Sorted.{answers_always}
use Rattle.catalogue_pack.proofs.Places.{place_found}
use Rattle.catalogue_pack.proofs.place_of.Goals as goal

pub returns : goal.returns
returns c =
    rw (c.ok.ensures.value)
    (place_found c.args.es.now c.args.number c.requires c.binary_search_by_key.result c.binary_search_by_key.ensures.bound
    (c.binary_search_by_key.ensures.position (λ e. e.number) (answers_always _ _ _ (λ f a r g called. search rules))))
