-- The lines that answer requests:
--     J, JC and JS -> NUMBER PLACE
--     P, PC and PS -> NUMBER PLACE TEXT
--     R, RC and RS -> NUMBER PLACE RDATA
use Rattle.std.specs.Prelude.{ℕ, List, [], ◌∷◌, ◌++◌}
use Rattle.format.specs.Octets.{ascii}
use Rattle.format.specs.Number.{decimal}
use Rattle.format.specs.Hex.{hex_text}

-- octets in hex, '-' for none
abbrev pub octets_text : List ℕ → List ℕ
octets_text [] = ascii "-"
octets_text (x ∷ xs) = hex_text (x ∷ xs)

abbrev pub numbers_text : ℕ → ℕ → List ℕ
numbers_text n i = decimal n ++ ascii " " ++ decimal i

abbrev pub judged_line : ℕ → ℕ → List ℕ
judged_line n i = numbers_text n i ++ ascii "\n"

abbrev pub result_line : ℕ → ℕ → List ℕ → List ℕ
result_line n i xs = numbers_text n i ++ ascii " " ++ octets_text xs ++ ascii "\n"

-- a line that is no request
abbrev pub unknown_line : List ℕ
unknown_line = ascii "?\n"
