-- What reading answers, refusal by refusal.
use Prim.Native.Nat.{ℕ, ◌+◌, ◌-◌, ◌≤◌, ◌<◌}
use mathlib.Core.Path.{◌≡◌, ap}
use mathlib.Core.Bool.{true, false, ◌&&◌}
use mathlib.Core.List.{List}
use native.Mathlib.Omega.{arith}
use lib.ListN.{length}
use lib.Dec.{leb}
use borrow.Author.Tests.{le-leb, lt-leb}
use Rattle.format.specs.Wire.{label_length, taken, takes_all}
use Rattle.format.specs.Name.{is_wire_name}
use Rattle.format.specs.Catalogue.{Entry, catalogued}
use Rattle.format.specs.Stored.{Lent}
use Rattle.format.specs.Entries.{refusal, of_catalogue, reading_of}
use Rattle.stanza_form.specs.Code.{fields_of}
use Rattle.stanza_judge.specs.declared.Outline.{Outline}
use Rattle.stanza_judge.specs.Stanza.{Outlined}
use Rattle.run_wire.specs.Run.{kinds_of}
use Rattle.std.specs.Prelude.{Result, Err}
use Rattle.buffer.specs.declared.lack.Lack.{Lack}
use Rattle.buffer.specs.declared.lack.Lack.TheVariants.{Missing, Fault}
use Rattle.field_wire.specs.Wire.{taken_in}
use Rattle.entry.specs.Entries.{run_octets}
use Rattle.entry.proofs.Laws.{accepted, refused as not-judged}
use Rattle.entry.proofs.Runs.{run_codes, kinds_length, run_kinds}

-- "one whole wire name"
pub whole_name : (p : List ℕ) (t : Result ℕ Lack) → taken_in t ≡ taken (label_length false 0) p → takes_all (taken_in t) p ≡ is_wire_name p
whole_name p t e = ap (λ x. takes_all x p) e

pub no_name : (p : List ℕ) (w : Lack) → taken_in (Err w) ≡ taken (label_length false 0) p → false ≡ is_wire_name p
no_name p Missing e = whole_name p (Err Missing) e
no_name p Fault e = whole_name p (Err Fault) e

-- refusals 1, the description's, 6 and 7
module _ (l : Lent) (es : List Entry) (names : List ℕ) where
  pub read_long : (first many : ℕ) (origin text : List ℕ) → 1048576 < length text → reading_of l first many es names origin text ≡ refusal 1 0
  unfolding reading_of
  read_long first many origin text h = rw (lt-leb (length text) 1048576 h)

  module _ {s codes : List ℕ} {o : Outline} (q : Outlined l s codes o) (origin text : List ℕ) (h : length text ≤ 1048576) where
    pub read_rejected : (first many : ℕ) → 0 < o.number → reading_of l first many es names origin text ≡ refusal o.number o.line
    unfolding reading_of
    read_rejected first many n = rw (le-leb (length text) 1048576 h, not-judged q (λ z. omega arith))

    module _ (n : o.number ≡ 0) (first many : ℕ) where
      pub read_no_run : false ≡ leb 1 first && leb (first - 1 + many) o.count → reading_of l first many es names origin text ≡ refusal 6 0
      unfolding reading_of
      read_no_run r = rw (le-leb (length text) 1048576 h, accepted q n, kinds_length q, ← r)

      module _ (r : true ≡ leb 1 first && leb (first - 1 + many) o.count) where
        pub read_no_origin : is_wire_name origin ≡ false → reading_of l first many es names origin text ≡ refusal 7 0
        unfolding reading_of
        read_no_origin w = rw (le-leb (length text) 1048576 h, accepted q n, kinds_length q, ← r, w)

        pub read_runs : o.count ≤ length codes → is_wire_name origin ≡ true → reading_of l first many es names origin text ≡ of_catalogue (catalogued names es) (λ c. run_octets c (kinds_of s (fields_of (run_codes first many codes))) origin text)
        unfolding reading_of
        read_runs room w = rw (le-leb (length text) 1048576 h, accepted q n, kinds_length q, ← r, w, run_kinds q room first many r)
