-- Printing and reading with the packed numbers are those with all the entries, though only 513 are packed.
use Prim.Native.Nat.{ℕ}
use mathlib.Core.Path.{◌≡◌, ap, ◌∙◌}
use mathlib.Core.List.{List}
use lib.ListN.{take}
use Rattle.format.specs.Catalogue.{Entry}
use Rattle.format.specs.Entries.{print_with, read_with}
use Rattle.catalogue.specs.Entries.{entries_at}
use Rattle.catalogue.proofs.Cut.{print_cut, read_cut}
use Rattle.catalogue_pack.specs.Packed.{Packed}
use Rattle.catalogue_pack.proofs.Rows.{packed_entries}

module _ (es : List Entry) (before after : List ℕ) (n : ℕ) (p : Packed es before after n) where
  pub print_whole : (stanza : List ℕ) (first many : ℕ) (names rdata out : List ℕ) (at : ℕ)
      → print_with stanza first many (entries_at (take n after)) names rdata out at ≡ print_with stanza first many es names rdata out at
  print_whole stanza first many names rdata out at =
      ap (λ (us : List Entry). print_with stanza first many us names rdata out at) (packed_entries es before after n p) ∙ print_cut stanza first many es names rdata out at

  pub read_whole : (stanza : List ℕ) (first many : ℕ) (names origin text out : List ℕ) (at : ℕ)
      → read_with stanza first many (entries_at (take n after)) names origin text out at ≡ read_with stanza first many es names origin text out at
  read_whole stanza first many names origin text out at =
      ap (λ (us : List Entry). read_with stanza first many us names origin text out at) (packed_entries es before after n p) ∙ read_cut stanza first many es names origin text out at
