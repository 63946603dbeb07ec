-- Laws of the line that answers a record.
use Prim.Native.Nat.{ℕ, ◌≤◌}
use mathlib.Core.Path.{◌≡◌, refl}
use mathlib.Core.Bool.{Bool, true, false}
use mathlib.Core.List.{List, [], ◌∷◌, ◌++◌}
use native.Mathlib.Omega.{arith}
use lib.Dec.{leb}
use lib.ListN.{length, length-append}
use borrow.Author.Tests.{leb-true}
use Rattle.format.specs.Lists.{flat}
use Rattle.format.specs.Octets.{ascii}
use Rattle.format.specs.Number.{decimal}
use Rattle.format.specs.Hex.{hex_text}
use Rattle.format.specs.Field.{Kind, kinds}
use Rattle.format.specs.Token.{tokens}
use Rattle.format.specs.Name.{is_wire_name}
use Rattle.format.specs.Judge.{Judged, rejected, described, judged}
use Rattle.format.specs.Run.{read_field, Parts, refused, parts, max_rdata, read_run}
use Rattle.format.specs.Catalogue.{catalogued_from}
use Rattle.format.specs.Entries.{Answer, done, refusal, max_text, or_refusal, of_stanza, of_parts, is_run, run, reading, reading_of}
use Rattle.format.specs.Job.{Job, answer_line, field_count, record_line}
use Rattle.format.proofs.Number.{decimal_10}
use Rattle.format.proofs.Hex.{hex_length}

-- an answer's RDATA has at most 65,535 octets
abbrev pub Short : Answer → Type 0
Short (done t) = length t ≤ 65535
Short (refusal n i) = Unit {0}

-- octets follow `ok`
pub ok_octets : (xs : List ℕ) → (length xs ≡ 0 → ⊥) → ascii "ok " ++ hex_text xs ++ ascii "\n" ≡ answer_line (done xs)
ok_octets [] h = absurd (h refl)
ok_octets (x ∷ xs) h = refl

-- the longest line, that of 65,535 octets
line_most : (a : Answer) → Short a → length (answer_line a) ≤ 131074
line_most (done []) h = omega arith
line_most (done (x ∷ xs)) h = omega (arith, hex_length (x ∷ xs), length-append (hex_text (x ∷ xs)) (ascii "\n"))
line_most (refusal n i) h =
    omega (arith, length-append (decimal n ++ ascii " " ++ decimal i) (ascii "\n"), length-append (decimal n ++ ascii " ") (decimal i), length-append (decimal n) (ascii " "), decimal_10 n, decimal_10 i)

-- RDATA that is read has no more octets; else there is refusal 11
or_short : (n : ℕ) (b : Bool) (a : Answer) → Short a → Short (or_refusal n b a)
or_short n true a h = h
or_short n false a h = tt

stanza_short : (v : Judged) (f : List Kind → Answer) → ((ks : List Kind) → Short (f ks)) → Short (of_stanza v f)
stanza_short (rejected n i) f h = tt
stanza_short (described d) f h = h (kinds d.fields)

parts_short : (r : Parts) (f : List (List ℕ) → Answer) → ((ps : List (List ℕ)) → Short (f ps)) → Short (of_parts r f)
parts_short (refused n i) f h = tt
parts_short (parts ps) f h = h ps

flat_short : (xs : List ℕ) (b : Bool) → leb (length xs) max_rdata ≡ b → Short (or_refusal 11 b (done xs))
flat_short xs true h = leb-true (length xs) max_rdata h
flat_short xs false h = tt

pub reading_short : (s : List ℕ) (first many : ℕ) (origin text : List ℕ) → Short (reading s first many origin text)
unfolding reading_of catalogued_from
reading_short s first many origin text =
    or_short 1 (leb (length text) max_text) _ (stanza_short (judged s) _ (λ ks.
    or_short 6 (is_run first many ks) _ (or_short 7 (is_wire_name origin) _ (
    parts_short (read_run (λ k ts. read_field [] k origin ts) (run first many ks) (tokens text)) _ (λ ps. flat_short (flat ps) (leb (length (flat ps)) max_rdata) refl)))))

pub record_most : (j : Job) (t : List ℕ) → length (record_line j t) ≤ 131074
record_most j t =
    let n = field_count (judged j.stanza) in
    line_most (reading j.stanza 1 n j.origin t) (reading_short j.stanza 1 n j.origin t)
