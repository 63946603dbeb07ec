use mathlib.Core.Path.{sym, ◌∙◌}
use Rattle.catalogue.proofs.Laws.{listed_within, listed_rising}
use Rattle.catalogue.proofs.Searches.{found_text, unfound_text, spelled_short}
use Rattle.catalogue.proofs.Catalogue.name_of.Goals as goal

pub returns-in_err-k-clause-unnamed : goal.returns-in_err-k-clause-unnamed
returns-in_err-k-clause-unnamed c =
    rw (c.from_residual.ensures) (unfound_text c.args.self.now.names.now c.args.self.now.types.now c.args.v (sym c.place_of.ensures ∙ c.in_err-k.was))

pub spelled-requires : goal.spelled-requires
spelled-requires c =
    let (l, _) = found_text c.args.self.now.names.now c.args.self.now.types.now c.args.v c.in_ok-k.k (sym c.place_of.ensures ∙ c.in_ok-k.was) in
    (listed_within c.args.self.now.names.now c.args.self.now.types.now c.args.self.now.listed c.in_ok-k.k l).in_text

pub returns-clause-named : goal.returns-clause-named
returns-clause-named c =
    let (_, t) = found_text c.args.self.now.names.now c.args.self.now.types.now c.args.v c.in_ok-k.k (sym c.place_of.ensures ∙ c.in_ok-k.was) in
    t ∙ sym c.spelled.ensures

pub returns-clause-short : goal.returns-clause-short
returns-clause-short c =
    let (l, _) = found_text c.args.self.now.names.now c.args.self.now.types.now c.args.v c.in_ok-k.k (sym c.place_of.ensures ∙ c.in_ok-k.was) in
    rw (c.spelled.ensures)
    (spelled_short c.args.self.now.names.now _ (listed_within c.args.self.now.names.now c.args.self.now.types.now c.args.self.now.listed c.in_ok-k.k l))

pub place_of-requires : goal.place_of-requires
place_of-requires c = listed_rising c.args.self.now.names.now c.args.self.now.types.now c.args.self.now.listed
