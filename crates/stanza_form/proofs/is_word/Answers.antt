use Prim.Native.Nat.{ℕ}
use mathlib.Core.Path.{◌∙◌}
use mathlib.Core.Bool.{false}
use lib.Dec.{eqb}
use borrow.Author.Rules.{rules}
use Rattle.std.specs.Iterator.Adapters.{zip_first, zip_second}
use Rattle.std.proofs.lemmas.Iterator.{YieldsList-from_zip, YieldsList-from_slice}
use Rattle.std.proofs.lemmas.Iterator.Search.{all_from_yields_List}
use Rattle.stanza_words.proofs.Laws.{zipped, unequal}
use Rattle.stanza_form.proofs.is_word.Goals as goal

pub returns-then-t-w : goal.returns-then-t-w
returns-then-t-w c =
    all_from_yields_List (λ (p : ℕ × ℕ). eqb p.0 p.1) c.all.new.self _ _ c.all.ensures.ran
    (YieldsList-from_zip {s = c.zip.result} (YieldsList-from_slice {s = zip_first c.zip.result} c.args.t.now cc)
    (YieldsList-from_slice {s = zip_second c.zip.result} c.args.w.now cc)) (λ x b q k. search rules)
    ∙ zipped false c.args.t.now c.args.w.now c.if-t-w.true

pub returns-else-t-w : goal.returns-else-t-w
returns-else-t-w c = unequal false c.args.t.now c.args.w.now c.if-t-w.false
