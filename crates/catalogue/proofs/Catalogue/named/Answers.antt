use Rattle.catalogue.proofs.Laws.{listed_within}
use Rattle.catalogue.proofs.Catalogue.named.Goals as goal

pub spelled-requires : goal.spelled-requires
spelled-requires c =
    (listed_within c.args.self.now.names.now c.args.self.now.types.now c.args.self.now.listed c.loop-w.w-index c.loop-w-test.true).in_text
