use borrow.Author.Rules.{rules}
use Rattle.std.proofs.lemmas.List.Sorted.{answers_always}
use Rattle.catalogue.specs.Entries.{entry_at}
use Rattle.catalogue.proofs.Searches.{searched_place}
use Rattle.catalogue.proofs.place_of.Goals as goal

pub returns : goal.returns
returns c =
    rw (c.ok.ensures.value)
    (searched_place c.args.types.now c.args.v c.requires c.binary_search_by_key.result
    c.binary_search_by_key.ensures.bound (c.binary_search_by_key.ensures.position (λ w. (entry_at w).type_no) (answers_always _ _ _ (λ f a r g called. search rules))))
