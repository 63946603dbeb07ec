-- What is known of counted strings before any line is judged, and how a description is lent.
use Rattle.std.specs.Prelude.{ℕ, ◌≡◌, Bool, true, false, cond, Option, None, Some, Result, Ok, Err, List, length}
use Rattle.format.specs.Text.{pieces}
use Rattle.format.specs.Judge.{rejected}
use Rattle.format.specs.Stored.{whole_strings, judged_stored, Lent, as_file, as_stored}
use Rattle.stanza_judge.specs.Stanza.{Whole, Begins, begun}
use Rattle.stanza_stored.specs.declared.Fault.{Fault}
use Rattle.stanza_stored.specs.declared.Fault.TheVariants.{TooLong, Edition, Cut, NoTag}

-- the number of the refusal in document 02, and the number of the string at fault
abbrev pub fault_number : Fault → ℕ
fault_number TooLong = 1
fault_number Edition = 16
fault_number (Cut k) = 8
fault_number NoTag = 14

abbrev pub fault_place : Fault → ℕ
fault_place TooLong = 0
fault_place Edition = 0
fault_place (Cut k) = k
fault_place NoTag = 1

-- no string is cut short, or the one of that number is
pub record AllWhole (s : List ℕ) : Type 0 where
  pub whole : whole_strings s ≡ true
  pub strings : Whole s 1

pub record CutShort (s : List ℕ) (k : ℕ) : Type 0 where
  pub cut : whole_strings s ≡ false
  pub last : k ≡ length (pieces s)

abbrev pub Checked : List ℕ → Option ℕ → Type 0
Checked s None = AllWhole s
Checked s (Some k) = CutShort s k

-- the lines that are left, the first of which is string 2, decide
pub record Decides (edition : ℕ) (s : List ℕ) (at : ℕ) : Type 0 where
  pub begins : Begins false s at 1
  pub decides : begun false s at 1 ≡ judged_stored edition s

-- the refusal is the judge's; or the lines that are left decide
abbrev pub Starts : ℕ → List ℕ → Result ℕ Fault → Type 0
Starts edition s (Err f) = rejected (fault_number f) (fault_place f) ≡ judged_stored edition s
Starts edition s (Ok at) = Decides edition s at

-- the octets as a file, or as strings of an edition
abbrev pub lent_as : Bool → ℕ → List ℕ → Lent
lent_as in_file edition s = cond in_file (as_file s) (as_stored edition s)
