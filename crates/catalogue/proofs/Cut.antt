-- No entry after a catalogue's 513th is looked at: the 513th is bad, whatever it is.
use Prim.Native.Nat.{ℕ, zero, suc, ◌+◌}
use mathlib.Core.Path.{◌≡◌, refl, ap}
use mathlib.Core.Bool.{cond}
use mathlib.Core.List.{List, [], ◌∷◌, ◌++◌}
use Rattle.std.specs.Prelude.{Option, None, Some}
use native.Mathlib.Omega.{arith}
use lib.ListN.{length, take}
use lib.Dec.{ltb}
use borrow.Author.Tests.{le-ltb}
use Rattle.format.specs.Catalogue.{Entry, TypeName, Catalogued, entry_after, after_entry, catalogued_from, catalogued}
use Rattle.format.specs.Entries.{printing_of, print_of, print_with, reading_of, read_of, read_with}

longer : (l : List TypeName) (n : TypeName) → length (l ++ n ∷ []) ≡ suc (length l)
longer [] n = refl
longer (x ∷ l) n = ap suc (longer l n)

after_same : (o : Option TypeName) (i : ℕ) (f g : TypeName → Catalogued) → ((n : TypeName) → f n ≡ g n) → after_entry o i f ≡ after_entry o i g
after_same None i f g h = refl
after_same (Some n) i f g h = h n

from_cut : (k : ℕ) (earlier : List TypeName) (names : List ℕ) (es : List Entry) → length earlier + suc k ≡ 513 → catalogued_from earlier names (take (suc k) es) ≡ catalogued_from earlier names es
unfolding catalogued_from
from_cut k earlier names [] l = refl
from_cut zero earlier names (e ∷ es) l = rw (le-ltb (length earlier) 512 (omega (arith, l))) refl
from_cut (suc k) earlier names (e ∷ es) l =
    after_same (cond (ltb (length earlier) 512) (entry_after earlier names e) None) (suc (length earlier))
    (λ n. catalogued_from (earlier ++ n ∷ []) names (take (suc k) es)) (λ n. catalogued_from (earlier ++ n ∷ []) names es)
    (λ n. from_cut k (earlier ++ n ∷ []) names es (let h = longer earlier n in omega (arith, l, h)))

pub cut_513 : (names : List ℕ) (es : List Entry) → catalogued names (take 513 es) ≡ catalogued names es
cut_513 names es = from_cut 512 [] names es refl

-- so printing and reading with the first 513 entries are those with all
pub print_cut : (stanza : List ℕ) (first len : ℕ) (es : List Entry) (names rdata out : List ℕ) (at : ℕ)
    → print_with stanza first len (take 513 es) names rdata out at ≡ print_with stanza first len es names rdata out at
unfolding print_of printing_of
print_cut stanza first len es names rdata out at = rw (cut_513 names es) refl

pub read_cut : (stanza : List ℕ) (first len : ℕ) (es : List Entry) (names origin text out : List ℕ) (at : ℕ)
    → read_with stanza first len (take 513 es) names origin text out at ≡ read_with stanza first len es names origin text out at
unfolding read_of reading_of
read_cut stanza first len es names origin text out at = rw (cut_513 names es) refl
