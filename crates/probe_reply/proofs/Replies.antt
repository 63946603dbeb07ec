-- The lengths of the answers.
use Prim.Native.Nat.{ℕ, ◌+◌, ◌*◌, ◌≤◌}
use mathlib.Core.List.{List, [], ◌∷◌, ◌++◌}
use native.Mathlib.Omega.{arith}
use lib.ListN.{length, length-append}
use Rattle.format.specs.Octets.{ascii}
use Rattle.format.specs.Number.{decimal}
use Rattle.format.proofs.Number.{decimal_10}
use Rattle.format.proofs.Hex.{hex_length}
use Rattle.probe_reply.specs.Replies.{octets_text, numbers_text, judged_line, result_line}

pub octets_most : (xs : List ℕ) → length (octets_text xs) ≤ length xs * 2 + 1
octets_most [] = omega arith
octets_most (x ∷ xs) = omega (arith, hex_length (x ∷ xs))

pub numbers_most : (n i : ℕ) → length (numbers_text n i) ≤ 21
numbers_most n i = omega (arith, length-append (decimal n ++ ascii " ") (decimal i), length-append (decimal n) (ascii " "), decimal_10 n, decimal_10 i)

pub judged_most : (n i : ℕ) → length (judged_line n i) ≤ 22
judged_most n i = omega (arith, length-append (numbers_text n i) (ascii "\n"), numbers_most n i)

pub result_most : (n i : ℕ) (xs : List ℕ) → length (result_line n i xs) ≤ length xs * 2 + 24
result_most n i xs =
    omega (arith, length-append ((numbers_text n i ++ ascii " ") ++ octets_text xs) (ascii "\n"), length-append (numbers_text n i ++ ascii " ") (octets_text xs), length-append (numbers_text n i) (ascii " "), numbers_most n i, octets_most xs)
