-- Request 4 of document 02, "Descriptions as the DNS stores them": lines for what no law pins, from the TXT data to the answer.
use Rattle.std.specs.Prelude.{ℕ, ◌≡◌, List, [], ◌∷◌, ◌++◌, map, replicate}
use Rattle.format.specs.Octets.{ascii}
use Rattle.format.specs.Entries.{Outcome, judge_stored, print_stored, read_stored}
use Rattle.format.specs.TwoForms.{txt_of}
use Rattle.format.specs.Settled.{root}
use Prim.Native.String.{String}

-- TXT data of these strings
abbrev pub txt : List String → List ℕ
txt ss = txt_of (map ascii ss)

-- a stored description of one field
abbrev pub one_stored : String → List ℕ
one_stored field = txt ("RRTYPE=1" ∷ "T:1" ∷ field ∷ [])

-- a number, its place or count, and the lent octets afterwards
abbrev pub tells : ℕ → ℕ → List ℕ → Outcome
tells n i lent = record { number = n; place = i; lent = lent }

-- A line: what is asked by the definitions, and the answer.
pub record StoredLine : Type 0 where
  pub asked : Outcome
  pub answer : Outcome

abbrev pub is : Outcome → Outcome → StoredLine
is a b = record { asked = a; answer = b }

-- the lines
abbrev pub stored_table : List StoredLine
stored_table =
    -- "Blank and `#` strings are ignored.": a `#` string is one whose first nonblank is `#`, whatever it holds
    is (judge_stored (txt ("RRTYPE=1" ∷ " \t" ∷ "T:1" ∷ " # c" ∷ "# c\n I2" ∷ "I1" ∷ [])) 13) (tells 0 1 []) ∷
    -- "the first must be exactly `RRTYPE=1`", "before any line is judged": no other case, and nothing before it
    is (judge_stored (txt ("rrtype=1" ∷ "!" ∷ [])) 13) (tells 14 1 []) ∷
    is (judge_stored (txt ("# c" ∷ "RRTYPE=1" ∷ "T:1" ∷ "I1" ∷ [])) 13) (tells 14 1 []) ∷
    -- "or missing": no octets are no string
    is (judge_stored [] 13) (tells 14 1 []) ∷
    -- "8 for a string cut short, place its number", before 14 and the lines
    is (judge_stored (txt ("no" ∷ []) ++ 1 ∷ []) 13) (tells 8 2 []) ∷
    is (judge_stored (txt ("RRTYPE=1" ∷ "!" ∷ []) ++ 1 ∷ []) 13) (tells 8 3 []) ∷
    -- 16 "first of all after 1"
    is (judge_stored (1 ∷ []) 10) (tells 16 0 []) ∷
    is (judge_stored (replicate 8193 1) 10) (tells 1 0 []) ∷
    -- no header: 0 is no line number
    is (judge_stored (txt ("RRTYPE=1" ∷ [])) 13) (tells 2 0 []) ∷
    -- the description's 8 comes before 6
    is (print_stored (one_stored "I1" ++ 7 ∷ []) 0 1 13 [] [] 0) (tells 8 4 []) ∷
    -- a record under a stored description
    is (print_stored (one_stored "I1[HOLD=2]") 1 1 13 (2 ∷ []) (replicate 4 0) 0) (tells 0 4 (ascii "HOLD")) ∷
    is (read_stored (one_stored "I1[HOLD=2]") 1 1 13 root (ascii "hold") (0 ∷ []) 0) (tells 0 1 (2 ∷ [])) ∷ []

-- the lines hold of the definitions
abbrev pub StoredLines : Type 0
StoredLines = map (λ (l : StoredLine). l.asked) stored_table ≡ map (λ (l : StoredLine). l.answer) stored_table
