-- Document 02, 4: "pass on stored TXT data without making a file". Counted strings stand for the lines of a stanza.
use Rattle.std.specs.Prelude.{ℕ, Bool, true, false, cond, List, [], ◌∷◌, length, drop, leb, eqb}
use Rattle.format.specs.Octets.{ascii, same_octets}
use Rattle.format.specs.Wire.{string_count, taken, takes_all}
use Rattle.format.specs.Field.{Part}
use Rattle.format.specs.Text.{pieces}
use Rattle.format.specs.Lines.{placed}
use Rattle.format.specs.Judge.{before_header, Judged, rejected, judged_from, max_stanza, judged}

-- "It is counted strings": each stands after its count, so the first begins at 1
abbrev pub strings_in : List ℕ → List Part
strings_in txt = placed 1 (pieces txt)

-- no string is "cut short": they take all the octets, as those of S[M] do
abbrev pub whole_strings : List ℕ → Bool
whole_strings txt = takes_all (taken (string_count true) txt) txt

-- "the first must be exactly `RRTYPE=1`"
abbrev pub tag : List ℕ
tag = ascii "RRTYPE=1"

-- neither "wrong" nor "missing"
abbrev pub tagged : List Part → Bool
tagged [] = false
tagged (t ∷ ls) = same_octets t.octets tag

-- "the rest are stanza lines without leading blanks"; "Line numbers are string numbers"
abbrev pub stored_lines : ℕ → List Part → Judged
stored_lines i ls = judged_from false i before_header ls

-- the edition that the caller names: 13 alone, until document 02's request 6 adds 10
abbrev pub is_edition : ℕ → Bool
is_edition edition = eqb edition 13

-- a refusal's number and place, unless something holds
abbrev pub or_rejected : ℕ → ℕ → Bool → Judged → Judged
or_rejected n i b j = cond b j (rejected n i)

-- "the total is at most 8,192 octets"; 16, "first of all after 1" (request 6); "8 for a string cut short, place its number" (the last
-- alone can be), "then 14 for a wrong or missing tag, place 1, both before any line is judged"; "the tag being 1", line 2 comes next
unfoldable pub judged_stored : ℕ → List ℕ → Judged
judged_stored edition txt =
    or_rejected 1 0 (leb (length txt) max_stanza) (
    or_rejected 16 0 (is_edition edition) (
    or_rejected 8 (length (pieces txt)) (whole_strings txt) (
    or_rejected 14 1 (tagged (strings_in txt)) (
    stored_lines 2 (drop 1 (strings_in txt))))))

-- A description as it is lent: a file of one stanza, or TXT data and the edition that the caller names.
pub data Lent : Type 0 where
  as_file : List ℕ → Lent
  as_stored : ℕ → List ℕ → Lent

-- what the judge says of it
abbrev pub judged_of : Lent → Judged
judged_of (as_file stanza) = judged stanza
judged_of (as_stored edition txt) = judged_stored edition txt
