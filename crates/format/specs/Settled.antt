-- Document 01's settled lines P1 to P14, from the stanza's text to the answer.
use Rattle.std.specs.Prelude.{ℕ, ◌+◌, ◌*◌, ◌-◌, ◌≡◌, cond, List, [], ◌∷◌, ◌++◌, map, replicate, ltb}
use Prim.Native.Char.{code}
use Rattle.format.specs.Octets.{ascii}
use Rattle.format.specs.Digits.{digits}
use Rattle.format.specs.Entries.{Answer, done, refusal, printing, reading, if_room}
use Prim.Native.String.{String, [] as none, ◌∷◌ as ◌then◌}

-- octets in hex
abbrev pub hex_digit : ℕ → ℕ
hex_digit c = cond (ltb c 58) (c - 48) (c - 55)

-- two digits for each octet
abbrev pub unhex : String → List ℕ
unhex none = []
unhex (c then none) = []
unhex (c then (d then s)) = (hex_digit (code c) * 16 + hex_digit (code d)) ∷ unhex s

-- "DOOR has fields I2:opening, I2:dwell, I1[STEP=1,HOLD=2]:mode, N:site."
abbrev pub door : List ℕ
door = ascii "DOOR:65280:I Door timing\n I2:opening Tenths\n I2:dwell Tenths\n I1[STEP=1,HOLD=2]:mode Mode\n N:site Site\n"

-- a stanza of one field
abbrev pub one_field : String → List ℕ
one_field field = ascii "ONE:1\n " ++ ascii field

-- the root as origin
abbrev pub root : List ℕ
root = 0 ∷ []

-- the origin `example.`
abbrev pub example : List ℕ
example = unhex "076578616D706C6500"

-- the record of P1
abbrev pub lobby : List ℕ
lobby = unhex "001E004602056C6F626279076578616D706C6500"

-- Printing RDATA, or reading a text under an origin, with all of a stanza's fields, n of them, and with room.
pub data Question : Type 0 where
  to_print : (stanza : List ℕ) (n : ℕ) (rdata : List ℕ) (space : ℕ) → Question
  to_read : (stanza : List ℕ) (n : ℕ) (origin text : List ℕ) (space : ℕ) → Question

-- the definitions' answer
unfoldable pub answered : Question → Answer
answered (to_print stanza n rdata space) = if_room space (printing stanza 1 n rdata)
answered (to_read stanza n origin text space) = if_room space (reading stanza 1 n origin text)

-- A settled line: its number, what is asked, and the answer.
pub record Line : Type 0 where
  pub p : ℕ
  pub question : Question
  pub answer : Answer

-- a settled line by its parts
abbrev pub line : ℕ → Question → Answer → Line
line p q a = record { p = p; question = q; answer = a }

-- "is" is read both ways
abbrev pub table : List Line
table =
    line 1 (to_print door 4 lobby 100) (done (ascii "30 70 HOLD lobby.example.")) ∷
    line 2 (to_read door 4 example (ascii "30 70 hold lobby") 100) (done lobby) ∷
    line 3 (to_read door 4 example (ascii "30 HOLD lobby") 100) (refusal 9 2) ∷
    line 4 (to_print door 4 (unhex "001E00") 100) (refusal 8 2) ∷
    line 5 (to_print door 4 (unhex "001E00460300") 100) (done (ascii "30 70 3 .")) ∷
    line 6 (to_print door 4 (lobby ++ unhex "00") 100) (refusal 10 5) ∷
    line 7 (to_print door 4 lobby 24) (refusal 12 25) ∷
    line 8 (to_print (one_field "T") 1 (unhex "FFFFFFFF") 100) (done (ascii "21060207062815")) ∷
    line 8 (to_read (one_field "T") 1 root (ascii "21060207062815") 100) (done (unhex "FFFFFFFF")) ∷
    line 8 (to_read (one_field "T") 1 root (ascii "21060207062816") 100) (refusal 9 1) ∷
    line 9 (to_read (one_field "T") 1 root (ascii "20000229000000") 100) (done (digits 256 4 951782400)) ∷
    line 9 (to_read (one_field "T") 1 root (ascii "951782400") 100) (done (digits 256 4 951782400)) ∷
    line 9 (to_print (one_field "T") 1 (digits 256 4 951782400) 100) (done (ascii "20000229000000")) ∷
    line 10 (to_print (one_field "S") 1 (unhex "0461225CFF") 100) (done (ascii "\"a\\\"\\\\\\255\"")) ∷
    line 10 (to_read (one_field "S") 1 root (ascii "\"a\\\"\\\\\\255\"") 100) (done (unhex "0461225CFF")) ∷
    line 11 (to_print (one_field "R[L]") 1 (unhex "000440000008") 100) (done (ascii "TYPE1 TYPE28")) ∷
    line 11 (to_read (one_field "R[L]") 1 root (ascii "TYPE1 TYPE28") 100) (done (unhex "000440000008")) ∷
    line 12 (to_print (one_field "R[L]") 1 (unhex "00024000") 100) (refusal 9 1) ∷
    line 13 (to_print (one_field "B32") 1 (unhex "01FF") 100) (done (ascii "VS")) ∷
    line 13 (to_read (one_field "B32") 1 root (ascii "VS") 100) (done (unhex "01FF")) ∷
    line 13 (to_read (one_field "B32") 1 root (ascii "VT") 100) (refusal 9 1) ∷
    line 14 (to_print (one_field "AAAA") 1 (replicate 16 0) 100) (done (ascii "::")) ∷
    line 14 (to_read (one_field "AAAA") 1 root (ascii "::") 100) (done (replicate 16 0)) ∷ []

-- the table holds of the definitions
abbrev pub Settled : Type 0
Settled = map (λ (l : Line). answered l.question) table ≡ map (λ (l : Line). l.answer) table
