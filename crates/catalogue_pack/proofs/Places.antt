-- What std's search by halves says of structs that rise by number.
use Prim.Native.Nat.{ℕ}
use mathlib.Core.List.{List}
use Rattle.std.specs.Prelude.{Result, Ok, Err}
use Rattle.std.specs.Ordering.{nat_cmp}
use Rattle.std.specs.Result.{result_ok}
use Rattle.std.specs.List.Sorted.{IsBinarySearchResult, IsSearchInRange}
use lib.ListN.{length}
use Rattle.catalogue.proofs.Searches.{searched}
use Rattle.catalogue_pack.specs.declared.Entry.{Entry as Lent}
use Rattle.catalogue_pack.specs.Place.{no_lent, Rising, PlaceOf}

pub place_found : (es : List Lent) (n : ℕ) → Rising es → (r : Result ℕ ℕ) → IsSearchInRange r (length es) → IsBinarySearchResult (λ e. nat_cmp e.number n) es r → PlaceOf es n (result_ok r)
place_found es n rising (Ok k) l h = searched (λ e. e.number) es no_lent n rising (Ok k) l h
place_found es n rising (Err k) l h = searched (λ e. e.number) es no_lent n rising (Err k) l h
